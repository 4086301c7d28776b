-- The first place that hits, in coefficients of two bytes.
use Rattle.std.proofs.Common.{◌≡◌, ℕ, zero, suc, ◌+◌, ◌*◌, ◌/◌, Bool, cond, List, [], ◌∷◌, map, length, Some, ℤ, refl, ap, arith, w16, to_z}
use Rattle.std.specs.Simd.{first_chunks}
use Rattle.search.specs.First.{first_from}
use Rattle.record.specs.Layout.{num2, z_of}

-- the coefficient in two bytes
abbrev pub in_pair : List ℕ → ℤ
in_pair bytes = to_z w16 (num2 bytes 0)

pub z_of-pairs : (k : ℕ) (bs : List ℕ) → k ≡ length bs / 2 → map in_pair (first_chunks 2 k bs) ≡ z_of bs
z_of-pairs zero [] h = refl
z_of-pairs zero (a ∷ []) h = refl
z_of-pairs zero (a ∷ b ∷ bs) h = absurd (omega arith)
z_of-pairs (suc k) [] h = absurd (omega arith)
z_of-pairs (suc k) (a ∷ []) h = absurd (omega arith)
z_of-pairs (suc k) (a ∷ b ∷ bs) h = ap (λ (zs : List ℤ). to_z w16 (a + b * 256) ∷ zs) (z_of-pairs k bs (omega arith))

pub first_from-map : {A B : Type 0} (test : B → Bool) (f : A → B) (i : ℕ) (xs : List A) → first_from (λ x. test (f x)) i xs ≡ first_from test i (map f xs)
first_from-map test f i [] = refl
first_from-map test f i (x ∷ xs) = ap (cond (test (f x)) (Some i)) (first_from-map test f (i + 1) xs)
