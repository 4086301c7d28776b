-- Refresh: a mask to every pair of shares, in order, for as long as the source has masks.
use Rattle.std.specs.Prelude.{◌≡◌, ℕ, zero, suc, ◌-◌, ◌*◌, ◌/◌, cond, List, [], ◌∷◌, ◌++◌, length, drop, Ok, Err, Result, nat_le, slice_index, slice_set}
use Rattle.words.specs.declared.Mark.{Mark}
use Rattle.words.specs.Flow.{Flow}
use Rattle.words.specs.Spending.{Spends}
use Rattle.shares.specs.Rule.{Rule, Within, recombine}

-- how many pairs m shares have
unfoldable pub pairs : ℕ → ℕ
pairs m = m * (m - 1) / 2

-- (i, j), (i, j + 1), .., n of them
abbrev pub row : ℕ → ℕ → ℕ → List (ℕ × ℕ)
row i j zero = []
row i j (suc n) = (i, j) ∷ row i (suc j) n

-- the pairs among n shares from share i on, rising by the first and then by the second
abbrev pub rows : ℕ → ℕ → List (ℕ × ℕ)
rows i zero = []
rows i (suc n) = row i (suc i) n ++ rows (suc i) n

-- r joined to share i, and its inverse to share j
abbrev pub masked : Rule → ℕ → ℕ → ℕ → List ℕ → List ℕ
masked u i j r xs = slice_set (slice_set xs i (u.op (slice_index xs i) r)) j (u.op (slice_index xs j) (u.inverse r))

-- a mask of the words ws to each pair in turn; where the words do not make one more mask, the shares stay as they are
abbrev pub refreshed : Rule → List (ℕ × ℕ) → List ℕ → List ℕ → List ℕ
refreshed u [] ws xs = xs
refreshed u (p ∷ ps) ws xs = cond (nat_le u.cost (length ws)) (refreshed u ps (drop u.cost ws) (masked u p.0 p.1 (u.mask ws) xs)) xs

-- what a call on one pair does to the shares
abbrev pub PairBy : {A : Type 0} → Rule → ℕ → ℕ → Result A Mark → List ℕ → List ℕ → Flow → Type 0
PairBy u i j (Ok x) xs xs' f = xs' ≡ masked u i j (u.mask f.words) xs
PairBy u i j (Err e) xs xs' f = xs' ≡ xs

-- one pair masked, or short of a mask
pub record Pair {A : Type 0} (u : Rule) (i j : ℕ) (r : Result A Mark) (xs xs' : List ℕ) (f f' : Flow) : Type 0 where
  pub spends : Spends u.cost r f f' (λ _. Unit {0})
  pub shares : PairBy u i j r xs xs' f
  pub long : length xs' ≡ length xs
  pub within : Within u xs'
  pub same : recombine u xs' ≡ recombine u xs

-- m shares refreshed: exactly which shares, what it costs, and that the value is the same, also where the masks end
pub record Refreshed {A : Type 0} (u : Rule) (m : ℕ) (r : Result A Mark) (xs xs' : List ℕ) (f f' : Flow) : Type 0 where
  pub spends : Spends (u.cost * pairs m) r f f' (λ _. Unit {0})
  pub shares : xs' ≡ refreshed u (rows 0 m) f.words xs
  pub long : length xs' ≡ length xs
  pub within : Within u xs'
  pub same : recombine u xs' ≡ recombine u xs
