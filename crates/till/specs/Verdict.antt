-- What a till answers, and what it then holds.
use Rattle.std.specs.Prelude.{◌≡◌, ℕ, ◌*◌, Bool, true, List, [], ◌∷◌, ◌++◌, length, Some, None, Ok, Err, Option, Result, ◌==◌, nat_lt}
use Rattle.std.specs.Str.{bytes_eq}
use Rattle.params.specs.Params.{Params}
use Rattle.refusal.specs.declared.Refusal.{Refusal}
use Rattle.refusal.specs.declared.Refusal.TheVariants.{AreaSize, OtherChallenge, Stale}
use Rattle.refusal.specs.declared.Area.TheVariants.{Public}
use Rattle.record.specs.Layout.{decode}
use Rattle.refusal.specs.Residues.{residue_test}
use Rattle.refusal.specs.Tests.{unless, first_hit}
use Rattle.record.specs.Reading.{record_tests}
use Rattle.till.specs.Verification.{PublicKey, Verifies, expected}
use Rattle.till.specs.declared.payment.Payment.{Payment}

-- a counter is above the last one, if there is one
abbrev pub above : Option ℕ → ℕ → Bool
above None counter = true
above (Some last) counter = nat_lt last counter

-- the tests of a till, in their order
abbrev pub size_test : Params → List ℕ → Option Refusal
size_test s key = unless (length key == 2 * s.n) AreaSize

abbrev pub word_test : Params → List ℕ → Option Refusal
word_test s key = residue_test Public s.p key

abbrev pub challenge_test : Params → List ℕ → List ℕ → Option Refusal
challenge_test s key bytes = unless (bytes_eq (expected s key (decode s bytes)) (decode s bytes).c) OtherChallenge

abbrev pub counter_test : Params → Option ℕ → List ℕ → Option Refusal
counter_test s last bytes = unless (above last (decode s bytes).counter) Stale

abbrev pub tests : Params → List ℕ → Option ℕ → List ℕ → List (Option Refusal)
tests s key last bytes = size_test s key ∷ word_test s key ∷ (record_tests s bytes ++ (challenge_test s key bytes ∷ counter_test s last bytes ∷ []))

-- the first two tests alone
abbrev pub TestsKey : {A : Type 0} → Params → List ℕ → Result A Refusal → Type 0
TestsKey s key (Ok _) = (size_test s key ≡ None) × (word_test s key ≡ None) × PublicKey s key
TestsKey s key (Err e) = first_hit (size_test s key ∷ word_test s key ∷ []) ≡ Some e

-- what an accepted record paid
abbrev pub payment : Params → List ℕ → Payment
payment s bytes = record { counter = (decode s bytes).counter; digest = (decode s bytes).digest }

-- the payment, or the first refusal
abbrev pub answer : Option Refusal → Payment → Result Payment Refusal
answer None p = Ok p
answer (Some e) p = Err e

abbrev pub verdict : Params → List ℕ → Option ℕ → List ℕ → Result Payment Refusal
verdict s key last bytes = answer (first_hit (tests s key last bytes)) (payment s bytes)

-- acceptance sets the last counter, and a refusal leaves it
abbrev pub last_after : Option ℕ → Result Payment Refusal → Option ℕ
last_after last (Ok p) = Some p.counter
last_after last (Err e) = last

-- the record is accepted exactly when it passes plain verification and its counter is above the last
abbrev pub Accepts : Params → List ℕ → Option ℕ → List ℕ → Type 0
Accepts s key last bytes = PublicKey s key × Verifies s key bytes × (above last (decode s bytes).counter ≡ true)
