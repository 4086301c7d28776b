-- A list that is taken two by two.
use Rattle.std.proofs.Common.{◌≡◌, ℕ, zero, suc, ◌+◌, ◌*◌, ◌<◌, ◌≤◌, List, length, [], ◌∷◌, get_or, refl, arith}
use Rattle.std.specs.Simd.{first_chunks}

-- the elements of a pair are those at twice its place
pub pair_at : (xs d : List ℕ) (count i : ℕ) → i < count → 2 * count ≤ length xs → (get_or (first_chunks 2 count xs) i d) ≡ get_or xs (2 * i) 0 ∷ get_or xs (2 * i + 1) 0 ∷ []
pair_at xs d zero i below long = absurd (omega arith)
pair_at [] d (suc count) i below long = absurd (omega arith)
pair_at (x ∷ []) d (suc count) i below long = absurd (omega arith)
pair_at (x ∷ y ∷ xs) d (suc count) zero below long = refl
pair_at (x ∷ y ∷ xs) d (suc count) (suc i) below long =
    let e : 2 * suc i ≡ suc (suc (2 * i)) = omega arith in
    let e' : 2 * suc i + 1 ≡ suc (suc (2 * i + 1)) = omega arith in
    rw (e', e) (pair_at xs d count i (omega arith) (omega arith))
