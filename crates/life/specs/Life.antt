-- A card's life: a list of calls, each answered from what the calls before it left.
use Rattle.std.specs.Prelude.{ℕ, ◌+◌, Bool, cond, List, [], ◌∷◌, ◌++◌, map, Some, None, Err, Option, Result}
use Rattle.params.specs.Params.{Params}
use Rattle.words.specs.Flow.{Flow}
use Rattle.refusal.specs.declared.Refusal.{Refusal}
use Rattle.refusal.specs.declared.Refusal.TheVariants.{AreaSize}
use Rattle.refusal.specs.Tests.{unless, first_hit}
use Rattle.record.specs.Layout.{Content}
use Rattle.plain.specs.Run.{Key, Outcome, signed, nonces_ended, masks_ended, all_failed, Attempt, Run, sign}
use Rattle.keys.specs.Charge.{taken, charged}
use Rattle.keys.specs.Remask.{remask_cost}
use Rattle.card.specs.Sign.{tries_test, counter_test, counter_after}
use Rattle.life.specs.declared.call.Call.{Call}
use Rattle.life.specs.declared.call.Call.TheVariants.{Sign, Remask, Report}

-- a call, and whether every area that it was lent had its size
pub record Event : Type 0 where
  pub call : Call
  pub fits : Bool

-- what the load of a card fixes
pub record MadeCard : Type 0 where
  pub set : Params
  pub key : Key
  pub shares : ℕ

-- what calls change: the card's counter, and what its two sources have still to give
pub record CardState : Type 0 where
  pub counter : ℕ
  pub nonces : Flow
  pub masks : Flow

-- what a call answers; a sign that no test refuses is a run of plain signing
pub data Answer : Type 0 where
  sign_refused : Refusal → Answer
  ran : Run → Answer
  remasked : Result ℕ Refusal → Answer
  reported : (counter shares : ℕ) → Answer

-- the tests of a sign, in their order: the areas, the tries, and the counter's end. A life's key and public areas hold residues throughout
abbrev pub sign_tests : (counter tries : ℕ) (fits : Bool) → List (Option Refusal)
sign_tests counter tries fits = unless fits AreaSize ∷ tries_test tries ∷ counter_test counter ∷ []

-- a sign by its first test that hits
abbrev pub sign_answer : Option Refusal → Run → Answer
sign_answer (Some e) r = sign_refused e
sign_answer None r = ran r

-- what a run leaves: the nonce words behind those that it drew, the mask words behind those that it took, and a counter that a record raises
abbrev pub after_run : CardState → Run → CardState
after_run c r = record {
  counter = counter_after r.outcome c.counter;
  nonces = record { words = r.left; mark = c.nonces.mark; origin = c.nonces.origin };
  masks = taken r.spent c.masks;
}

-- what a sign leaves: a refused one leaves all as it was
abbrev pub after_sign : Option Refusal → CardState → Run → CardState
after_sign (Some e) c r = c
after_sign None c r = after_run c r

module _ (made : MadeCard) where
  -- the run of a sign
  abbrev pub run_of : CardState → (digest : List ℕ) (tries : ℕ) → Run
  run_of c digest tries = sign made.set made.key made.shares digest c.counter tries c.nonces c.masks

  -- the mask words of a remask
  abbrev pub remask_words : ℕ
  remask_words = remask_cost made.set made.shares

  -- what each call answers, and what it leaves; a remask that comes short takes all the masks
  abbrev pub answer_to : CardState → Call → (fits : Bool) → Answer
  answer_to c (Sign digest tries) fits = sign_answer (first_hit (sign_tests c.counter tries fits)) (run_of c digest tries)
  answer_to c Remask fits = remasked (cond fits (charged remask_words c.masks remask_words) (Err AreaSize))
  answer_to c Report fits = reported c.counter made.shares

  abbrev pub after_call : CardState → Call → (fits : Bool) → CardState
  after_call c (Sign digest tries) fits = after_sign (first_hit (sign_tests c.counter tries fits)) c (run_of c digest tries)
  after_call c Remask fits = record { counter = c.counter; nonces = c.nonces; masks = cond fits (taken remask_words c.masks) c.masks }
  after_call c Report fits = c

  abbrev pub answer : CardState → Event → Answer
  answer c e = answer_to c e.call e.fits

  abbrev pub moved : CardState → Event → CardState
  moved c e = after_call c e.call e.fits

  -- the answers of a life, and the state that it leaves
  abbrev pub life : CardState → List Event → List Answer
  life c [] = []
  life c (e ∷ events) = answer c e ∷ life (moved c e) events

  abbrev pub lived : CardState → List Event → CardState
  lived c [] = c
  lived c (e ∷ events) = lived (moved c e) events

-- a card that was just loaded, with what the load left of its masks
abbrev pub loaded : (nonces masks : Flow) → CardState
loaded n f = record { counter = 0; nonces = n; masks = f }

-- the record of an answer, and those of a life in their order
abbrev pub record_in : Outcome → List Content
record_in (signed r) = r ∷ []
record_in (nonces_ended f) = []
record_in (masks_ended f) = []
record_in all_failed = []

abbrev pub record_of : Answer → List Content
record_of (sign_refused e) = []
record_of (ran r) = record_in r.outcome
record_of (remasked k) = []
record_of (reported k m) = []

abbrev pub records : List Answer → List Content
records [] = []
records (x ∷ more) = record_of x ++ records more

-- an attempt of a life, with the digest and the counter that it was to sign
pub record Tried : Type 0 where
  pub digest : List ℕ
  pub counter : ℕ
  pub attempt : Attempt

abbrev pub digest_in : Call → List ℕ
digest_in (Sign digest tries) = digest
digest_in Remask = []
digest_in Report = []

abbrev pub attempts_in : Answer → List Attempt
attempts_in (sign_refused e) = []
attempts_in (ran r) = r.attempts
attempts_in (remasked k) = []
attempts_in (reported k m) = []

-- the attempts of a life in their order, each for its call's digest and the counter after the card's
abbrev pub attempts : MadeCard → CardState → List Event → List Tried
attempts made c [] = []
attempts made c (e ∷ events) =
    map (λ (t : Attempt). record { digest = digest_in e.call; counter = c.counter + 1; attempt = t }) (attempts_in (answer made c e)) ++ attempts made (moved made c e) events
