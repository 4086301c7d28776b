-- What the long product comes by: a coefficient of a · b is a sum of products of two lists, reduced once.
use Rattle.std.specs.Prelude.{◌≡◌, ℕ, ◌+◌, ◌-◌, ◌*◌, ◌<◌, List, [], ◌∷◌, slice_index}
use Rattle.ring.specs.Ring.{negate}

-- the sum of the products of what stands at the same place
abbrev pub dot : List ℕ → List ℕ → ℕ
dot [] ys = 0
dot (x ∷ xs) [] = 0
dot (x ∷ xs) (y ∷ ys) = x * y + dot xs ys

-- b's n coefficients from the highest down, and behind them those of −b
abbrev pub Turned : (n p : ℕ) → (b ws : List ℕ) → Type 0
Turned n p b ws = (k : ℕ) → k < n → (slice_index ws k ≡ slice_index b (n - 1 - k)) × (slice_index ws (n + k) ≡ negate p (slice_index b (n - 1 - k)))
