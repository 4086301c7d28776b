-- Sign: its tests, and then the plain run on the key that the shares stand for.
use Rattle.std.specs.Prelude.{◌≡◌, ℕ, ◌+◌, ◌*◌, ◌<◌, ◌&&◌, List, [], ◌∷◌, length, take, replicate, Some, None, Ok, Err, Option, Result, ◌==◌, nat_le, nat_lt}
use Rattle.params.specs.Params.{Params}
use Rattle.refusal.specs.declared.Area.TheVariants.{Public}
use Rattle.refusal.specs.declared.Refusal.{Refusal}
use Rattle.refusal.specs.declared.Refusal.TheVariants.{AreaSize, Tries, CounterEnd, NoncesEndedAt, MasksEndedAt, TriesFailed}
use Rattle.refusal.specs.declared.fault.Counts.{Counts}
use Rattle.refusal.specs.Residues.{residue_test}
use Rattle.refusal.specs.Tests.{unless, first_hit}
use Rattle.record.specs.Layout.{encode, size}
use Rattle.ring.specs.Ring.{Residues}
use Rattle.words.specs.Flow.{Flow}
use Rattle.plain.specs.Run.{Outcome, Run, signed, nonces_ended, masks_ended, all_failed, counts_of, sign}
use Rattle.attempt.specs.Attempt.{key_in}
use Rattle.attempt.specs.Stages.{outcome_of}
use Rattle.signing.specs.declared.failure.Failure.{Failure}
use Rattle.signing.specs.declared.failure.Failure.TheVariants.{Halted, TriesFailed as FailedTries}
use Rattle.keys.specs.Charge.{taken}
use Rattle.keys.specs.Remask.{word_test}
use Rattle.card.specs.declared.state.Signed.{Signed}

-- the tests of a sign: the sizes of the areas, the words of the public area and of the key area, the tries, and the counter's end
abbrev pub areas_test : Params → ℕ → (key public work bytes : List ℕ) → Option Refusal
areas_test s m key public work bytes = unless (length public == 2 * s.n && (length key == 2 * m * s.n && (length work == 6 * m * s.n && length bytes == size s))) AreaSize

abbrev pub public_test : Params → List ℕ → Option Refusal
public_test s public = residue_test Public s.p public

abbrev pub tries_test : ℕ → Option Refusal
tries_test tries = unless (nat_le 1 tries && nat_le tries 255) Tries

abbrev pub counter_test : ℕ → Option Refusal
counter_test counter = unless (nat_lt counter 65535) CounterEnd

-- in their order
abbrev pub sign_tests : Params → (m counter tries : ℕ) (key public work bytes : List ℕ) → List (Option Refusal)
sign_tests s m counter tries key public work bytes = areas_test s m key public work bytes ∷ public_test s public ∷ word_test s key ∷ tries_test tries ∷ counter_test counter ∷ []

-- what a sign that passes them may go by
pub record Signable (s : Params) (m counter tries : ℕ) (key public work bytes : List ℕ) : Type 0 where
  pub key_sized : length key ≡ 2 * m * s.n
  pub key_residues : Residues s.p key
  pub public_sized : length public ≡ 2 * s.n
  pub public_residues : Residues s.p public
  pub work_sized : length work ≡ 6 * m * s.n
  pub record_sized : length bytes ≡ size s
  pub some_tries : 0 < tries
  pub counter_left : counter < 65535

-- they all pass, or the first that hit
abbrev pub TestsSign : {A : Type 0} → Params → (m counter tries : ℕ) (key public work bytes : List ℕ) → Result A Refusal → Type 0
TestsSign s m counter tries key public work bytes (Ok _) = (first_hit (sign_tests s m counter tries key public work bytes) ≡ None) × Signable s m counter tries key public work bytes
TestsSign s m counter tries key public work bytes (Err e) = first_hit (sign_tests s m counter tries key public work bytes) ≡ Some e

-- what a run answers, with what it took
abbrev pub answer_of : Outcome → Counts → Result Signed Refusal
answer_of (signed r) counts = Ok (record { counter = r.counter; counts = counts })
answer_of (nonces_ended fault) counts = Err (NoncesEndedAt fault counts)
answer_of (masks_ended fault) counts = Err (MasksEndedAt fault counts)
answer_of all_failed counts = Err (TriesFailed counts)

-- how a signing ends that fails so
abbrev pub outcome_in : Failure → Outcome
outcome_in (Halted t) = outcome_of t
outcome_in FailedTries = all_failed

-- the counter after it: a record raises it by one
abbrev pub counter_after : Outcome → ℕ → ℕ
counter_after (signed r) counter = counter + 1
counter_after (nonces_ended fault) counter = counter
counter_after (masks_ended fault) counter = counter
counter_after all_failed counter = counter

-- the record area after it
abbrev pub record_after : Params → Outcome → List ℕ → List ℕ
record_after s (signed r) bytes = encode s r
record_after s (nonces_ended fault) bytes = bytes
record_after s (masks_ended fault) bytes = bytes
record_after s all_failed bytes = bytes

-- a sign does what the run does, and leaves the work area zeroed
pub record Ran (s : Params) (r : Run) (answer : Result Signed Refusal) (counter counter' : ℕ) (work work' bytes bytes' : List ℕ) (n n' f f' : Flow) : Type 0 where
  pub answered : answer ≡ answer_of r.outcome (counts_of r)
  pub counted : counter' ≡ counter_after r.outcome counter
  pub written : bytes' ≡ record_after s r.outcome bytes
  pub zeroed : work' ≡ replicate (length work) 0
  pub nonces : n' ≡ taken r.drawn n
  pub masks : f' ≡ taken r.spent f

-- a sign by its first test that hits: nothing changes; where none does, the plain run
abbrev pub SignBy : Params → (m : ℕ) (digest : List ℕ) (tries : ℕ) (key public : List ℕ) → Option Refusal → Result Signed Refusal → (counter counter' : ℕ) (work work' bytes bytes' : List ℕ) → Flow → Flow → Flow → Flow → Type 0
SignBy s m digest tries key public (Some e) answer counter counter' work work' bytes bytes' n n' f f' =
    (answer ≡ Err e) × (counter' ≡ counter) × (work' ≡ work) × (bytes' ≡ bytes) × (n' ≡ n) × (f' ≡ f)
SignBy s m digest tries key public None answer counter counter' work work' bytes bytes' n n' f f' =
    Ran s (sign s (key_in s m (take s.n public) key) m digest counter tries n f) answer counter counter' work work' bytes bytes' n n' f f'
