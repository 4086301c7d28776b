-- Tests in a row: the first that hits is answered.
use Rattle.std.specs.Prelude.{◌≡◌, ℕ, Bool, cond, List, [], ◌∷◌, Some, None, Ok, Err, Option, Result}
use Rattle.refusal.specs.declared.Refusal.{Refusal}

-- the refusal of a test that hit, or none
abbrev pub unless : Bool → Refusal → Option Refusal
unless passed e = cond passed None (Some e)

-- the refusal at an index that hit, or none
abbrev pub at_index : (ℕ → Refusal) → Option ℕ → Option Refusal
at_index e None = None
at_index e (Some i) = Some (e i)

-- the first test that hit
abbrev pub first_hit : List (Option Refusal) → Option Refusal
first_hit [] = None
first_hit (None ∷ tests) = first_hit tests
first_hit (Some e ∷ tests) = Some e

-- one test alone: it is passed, or it hit
abbrev pub Tested : {A : Type 0} → Option Refusal → Result A Refusal → Type 0
Tested test (Ok _) = test ≡ None
Tested test (Err e) = test ≡ Some e
