-- What a writer leaves in the area that it is lent.
use Rattle.std.specs.Prelude.{◌≡◌, ℕ, ◌-◌, ◌*◌, ◌≤◌, Bool, cond, ◌&&◌, ◌⊎◌, List, length, ℤ, None, Ok, Err, Result, ◌==◌, unsigned_abs}
use Rattle.std.specs.List.{AllByRecursion}
use Rattle.params.specs.Params.{Params, reach}
use Rattle.refusal.specs.declared.Refusal.{Refusal}
use Rattle.refusal.specs.declared.Refusal.TheVariants.{AreaSize}
use Rattle.record.specs.Layout.{Content, size, encode, decode}
use Rattle.refusal.specs.Tests.{first_hit}
use Rattle.record.specs.Reading.{record_tests}

-- what the arguments of a call say
abbrev pub content_of : ℕ → List ℕ → List ℤ → List ℕ → Content
content_of counter digest z c = record { counter = counter; digest = digest; z = z; c = c }

-- the area and both parts are of their sizes
abbrev pub sized : Params → List ℕ → Content → Bool
sized s area r = length area == size s && (length r.z == 2 * s.n && length r.c == s.n)

-- a record is written exactly where the sizes fit
abbrev pub answered : Params → List ℕ → Content → Result (Unit {0}) Refusal
answered s area r = cond (sized s area r) (Ok tt) (Err AreaSize)

-- the area holds the record, or what it held before
abbrev pub left_in : Params → List ℕ → Content → List ℕ
left_in s area r = cond (sized s area r) (encode s r) area

-- a residue that stands for 0, 1 or −1
abbrev pub Ternary : Params → ℕ → Type 0
Ternary s v = (v ≡ 0) ⊎ ((v ≡ 1) ⊎ (v ≡ s.p - 1))

-- no coefficient of z lies too far from 0, and those of the challenge are 0, 1 and −1
pub record Proper (s : Params) (r : Content) : Type 0 where
  pub near : AllByRecursion (λ z. unsigned_abs z ≤ reach s) r.z
  pub ternary : AllByRecursion (Ternary s) r.c

-- what a writer wrote of a proper content passes the reader's tests and says that content
abbrev pub ReadsBack : Params → Content → Result (Unit {0}) Refusal → List ℕ → Type 0
ReadsBack s r answer area = answer ≡ Ok tt → Proper s r → (first_hit (record_tests s area) ≡ None) × (decode s area ≡ r)
