-- What holds over a card's whole life.
use Rattle.std.specs.Prelude.{◌≡◌, ℕ, ◌<◌, ◌≤◌, Bool, false, ◌↔◌, List, [], ◌++◌, map, length, take, Some, None, Ok, Err, Option, Result, ◌==◌}
use Rattle.std.specs.List.{range_with_len, flat_map, AllByRecursion}
use Rattle.params.specs.Params.{Params, Sound}
use Rattle.words.specs.Flow.{Flow}
use Rattle.refusal.specs.declared.Refusal.{Refusal}
use Rattle.refusal.specs.declared.Refusal.TheVariants.{Stale}
use Rattle.refusal.specs.declared.fault.Counts.{Counts}
use Rattle.refusal.specs.Told.{number_of}
use Rattle.ring.specs.Laws.{Proper}
use Rattle.ring.specs.Ring.{plus, product}
use Rattle.record.specs.Layout.{Content, encode}
use Rattle.plain.specs.Nonces.{candidates}
use Rattle.plain.specs.Run.{counts_of}
use Rattle.plain.specs.Laws.{words_of, own_nonces, ComesFrom, Fates}
use Rattle.card.specs.declared.state.Signed.{Signed}
use Rattle.card.specs.Sign.{answer_of, record_after}
use Rattle.till.specs.declared.payment.Payment.{Payment}
use Rattle.till.specs.Verdict.{verdict}
use Rattle.life.specs.declared.call.Call.{Call}
use Rattle.life.specs.declared.call.Call.TheVariants.{Sign, Remask, Report}
use Rattle.life.specs.Life.{Event, MadeCard, Answer, sign_refused, ran, remasked, reported, loaded, life, lived, records, Tried, attempts}
use Rattle.life.specs.Shown.{last_shown, accepted}

-- a card that a load makes: a sound set, 1 to 8 shares, and polynomials of the set
pub record SoundCard (made : MadeCard) : Type 0 where
  pub sound : Sound made.set
  pub some : 0 < made.shares
  pub most : made.shares ≤ 8
  pub a : Proper made.set.n made.set.p made.key.a
  pub s1 : Proper made.set.n made.set.p made.key.s1
  pub s2 : Proper made.set.n made.set.p made.key.s2

-- the digest of a sign has 32 bytes
abbrev pub Digested : Call → Type 0
Digested (Sign digest tries) = length digest ≡ 32
Digested Remask = Unit {0}
Digested Report = Unit {0}

-- NEWER. The key area of a card's till: a, and then t = a·s1 + s2
abbrev pub till_key : MadeCard → List ℕ
till_key made = made.key.a ++ plus made.set.p (product made.set.p made.key.a made.key.s1) made.key.s2

-- what a record pays
abbrev pub payment_of : Content → Payment
payment_of r = record { counter = r.counter; digest = r.digest }

-- what the card's till, begun with no last counter, answers to a record once it was shown these byte strings
abbrev pub till_answer : MadeCard → (before : List (List ℕ)) → Content → Result Payment Refusal
till_answer made before r = verdict made.set (till_key made) (last_shown made.set (till_key made) None before) (encode made.set r)

-- the record's counter is above every counter that the till accepted among them
abbrev pub AboveAll : MadeCard → (before : List (List ℕ)) → Content → Type 0
AboveAll made before r = AllByRecursion (λ (paid : Payment). paid.counter < r.counter) (accepted made.set (till_key made) None before)

-- exactly then the till accepts the record; else it refuses it for its counter
pub record JudgedByCounter (made : MadeCard) (r : Content) (before : List (List ℕ)) : Type 0 where
  pub accepts : (till_answer made before r ≡ Ok (payment_of r)) ↔ AboveAll made before r
  pub refuses : (AboveAll made before r → ⊥) → till_answer made before r ≡ Err Stale

-- every record of every life is judged so, whatever was shown before
abbrev pub NewerLaw : Type 0
NewerLaw =
    (made : MadeCard) → SoundCard made → (nonces masks : Flow) (events : List Event) → AllByRecursion (λ (e : Event). Digested e.call) events →
    AllByRecursion (λ (r : Content). (before : List (List ℕ)) → JudgedByCounter made r before) (records (life made (loaded nonces masks) events))

-- PLACES. A sign counts as many nonce words as its attempts drew; every attempt before the last was rejected, and the last has the fate that the sign's end tells
abbrev pub Tallied : Answer → Type 0
Tallied (sign_refused e) = Unit {0}
Tallied (ran r) = (r.drawn ≡ length (words_of r.attempts)) × Fates r.outcome r.attempts
Tallied (remasked k) = Unit {0}
Tallied (reported k m) = Unit {0}

-- the nonce list as it stood at load is the words of the attempts, one attempt after another, and then what is left: so each attempt has places
-- of its own, refused candidates and a group cut short included. An attempt's fate comes from the nonces in its own words, for the digest and the
-- counter of its own call
pub record OwnPlaces (made : MadeCard) (nonces masks : Flow) (events : List Event) : Type 0 where
  pub in_order : nonces.words ≡ flat_map (λ (t : Tried). t.attempt.words) (attempts made (loaded nonces masks) events) ++ (lived made (loaded nonces masks) events).nonces.words
  pub own : AllByRecursion (λ (t : Tried). ComesFrom made.set made.key t.digest t.counter (own_nonces made.set made.shares t.attempt) t.attempt.fate) (attempts made (loaded nonces masks) events)
  pub tallied : AllByRecursion Tallied (life made (loaded nonces masks) events)

-- so it is in every life
abbrev pub PlacesLaw : Type 0
PlacesLaw = (made : MadeCard) → SoundCard made → (nonces masks : Flow) (events : List Event) → OwnPlaces made nonces masks events

-- ALIKE. Counts with the numbers of words struck out
abbrev pub no_words : Counts → Counts
no_words counts = record { attempts = counts.attempts; candidates = counts.candidates; nonces = 0; masks = 0 }

-- what is told: of a sign its answer and the record's bytes, if it made one; of a remask whether it was refused, and why; of a report the counter
pub data Told : Type 0 where
  of_sign : Result Signed Refusal → (bytes : List ℕ) → Told
  of_remask : Result (Unit {0}) Refusal → Told
  of_report : (counter : ℕ) → Told

abbrev pub told : Params → Answer → Told
told s (sign_refused e) = of_sign (Err e) []
told s (ran r) = of_sign (answer_of r.outcome (no_words (counts_of r))) (record_after s r.outcome [])
told s (remasked (Ok k)) = of_remask (Ok tt)
told s (remasked (Err e)) = of_remask (Err e)
told s (reported k m) = of_report k

-- the refusal that is told
abbrev pub refusal_in : Told → Option Refusal
refusal_in (of_sign (Ok x) bytes) = None
refusal_in (of_sign (Err e) bytes) = Some e
refusal_in (of_remask (Ok x)) = None
refusal_in (of_remask (Err e)) = Some e
refusal_in (of_report k) = None

-- it is the one for masks that ended, number 22
abbrev pub for_masks : Option Refusal → Bool
for_masks None = false
for_masks (Some e) = number_of e == 22

-- no answer tells it
abbrev pub MasksLast : Params → List Answer → Type 0
MasksLast s answers = AllByRecursion (λ (x : Answer). for_masks (refusal_in (told s x)) ≡ false) answers

-- the same card in another number of shares
abbrev pub with_shares : ℕ → MadeCard → MadeCard
with_shares m made = record { set = made.set; key = made.key; shares = m }

-- two cards with one set, one key and the same calls, whose nonce lists hold the same candidates before the same mark, tell the same for as long as the masks of both last
abbrev pub AlikeLaw : Type 0
AlikeLaw =
    (made : MadeCard) (m : ℕ) → SoundCard made → SoundCard (with_shares m made) →
    (nonces masks nonces' masks' : Flow) → candidates made.set made.shares nonces.words ≡ candidates made.set m nonces'.words → nonces.mark ≡ nonces'.mark →
    (events : List Event) (j : ℕ) →
    MasksLast made.set (take j (life made (loaded nonces masks) events)) →
    MasksLast made.set (take j (life (with_shares m made) (loaded nonces' masks') events)) →
    map (told made.set) (take j (life made (loaded nonces masks) events)) ≡ map (told made.set) (take j (life (with_shares m made) (loaded nonces' masks') events))

-- NUMBERED. The records of a life have the counters 1, 2, 3, .., and the card's counter is the last; so no counter comes twice, and none is past its greatest value
pub record Numbered (made : MadeCard) (nonces masks : Flow) (events : List Event) : Type 0 where
  pub numbers : map (λ (r : Content). r.counter) (records (life made (loaded nonces masks) events)) ≡ range_with_len 1 (length (records (life made (loaded nonces masks) events)))
  pub counter : (lived made (loaded nonces masks) events).counter ≡ length (records (life made (loaded nonces masks) events))
  pub most : (lived made (loaded nonces masks) events).counter ≤ 65535

-- so it is in every life
abbrev pub NumbersLaw : Type 0
NumbersLaw = (made : MadeCard) → SoundCard made → (nonces masks : Flow) (events : List Event) → Numbered made nonces masks events
