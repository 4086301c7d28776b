-- A till that is shown byte strings, one after another.
use Rattle.std.specs.Prelude.{ℕ, List, [], ◌∷◌, ◌++◌, Ok, Err, Option, Result}
use Rattle.params.specs.Params.{Params}
use Rattle.refusal.specs.declared.Refusal.{Refusal}
use Rattle.till.specs.declared.payment.Payment.{Payment}
use Rattle.till.specs.Verdict.{verdict, last_after}

-- the payment of an answer
abbrev pub payment_in : Result Payment Refusal → List Payment
payment_in (Ok paid) = paid ∷ []
payment_in (Err e) = []

-- by a till for this set and key area
module _ (s : Params) (key : List ℕ) where
  -- the last counter that it then holds
  abbrev pub last_shown : (last : Option ℕ) → List (List ℕ) → Option ℕ
  last_shown last [] = last
  last_shown last (bytes ∷ more) = last_shown (last_after last (verdict s key last bytes)) more

  -- the payments that it accepted
  abbrev pub accepted : (last : Option ℕ) → List (List ℕ) → List Payment
  accepted last [] = []
  accepted last (bytes ∷ more) = payment_in (verdict s key last bytes) ++ accepted (last_after last (verdict s key last bytes)) more
