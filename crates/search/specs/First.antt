-- The first place in a list at which a test holds.
use Rattle.std.specs.Prelude.{◌≡◌, ℕ, ◌+◌, ◌<◌, Bool, true, false, cond, List, [], ◌∷◌, length, Some, None, Option, slice_index_or}

-- the same, where the list's first place is numbered i
abbrev pub first_from : {A : Type 0} → (A → Bool) → ℕ → List A → Option ℕ
first_from test i [] = None
first_from test i (x ∷ xs) = cond (test x) (Some i) (first_from test (i + 1) xs)

-- the lowest index at which the test holds
abbrev pub first_at : {A : Type 0} → (A → Bool) → List A → Option ℕ
first_at test xs = first_from test 0 xs

-- r tells the first place: none, and the test fails at each; or i, and it holds at i and at no place before
abbrev pub First : {A : Type 0} → A → (A → Bool) → List A → Option ℕ → Type 0
First d test xs None = (k : ℕ) → k < length xs → test (slice_index_or xs k d) ≡ false
First d test xs (Some i) = (i < length xs) × (test (slice_index_or xs i d) ≡ true) × ((k : ℕ) → k < i → test (slice_index_or xs k d) ≡ false)
