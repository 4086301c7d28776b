-- An area of polynomials in m shares: each polynomial has m rows of n words, a row for each share, and the polynomials stand one behind another.
-- Coefficients are counted through the polynomials, so coefficient c is that at c % n of polynomial c / n.
use Rattle.std.specs.Prelude.{ℕ, ◌+◌, ◌*◌, ◌/◌, ◌%◌, List, map, take, drop, slice_index}
use Rattle.std.specs.List.{range_with_len}
use Rattle.params.specs.Params.{Params}
use Rattle.shares.specs.Rule.{recombine}
use Rattle.shares.specs.Groups.{residue_rule}

-- where share i of coefficient c stands
unfoldable pub place : ℕ → ℕ → ℕ → ℕ → ℕ
place n m c i = (c / n * m + i) * n + c % n

-- the m shares of coefficient c
unfoldable pub shares_of : ℕ → ℕ → List ℕ → ℕ → List ℕ
shares_of n m area c = map (λ i. slice_index area (place n m c i)) (range_with_len 0 m)

-- what the shares of the first coefficients stand for
unfoldable pub values : Params → ℕ → ℕ → List ℕ → List ℕ
values s m count area = map (λ c. recombine (residue_rule s.p) (shares_of s.n m area c)) (range_with_len 0 count)

-- what the shares of two polynomials stand for, as those of s1 and s2: 2n coefficients
unfoldable pub recombined : Params → ℕ → List ℕ → List ℕ
recombined s m area = values s m (2 * s.n) area

-- row j of an area
unfoldable pub row : ℕ → ℕ → List ℕ → List ℕ
row n j area = take n (drop (j * n) area)
