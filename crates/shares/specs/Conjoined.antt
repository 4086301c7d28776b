-- SecAnd, share by share.
use Rattle.std.specs.Prelude.{ℕ, List, [], ◌∷◌, drop, set, bit_and, bit_xor, slice_index, slice_set}
use Rattle.shares.specs.Refresh.{rows}

-- the products of shares with the same number
abbrev pub products : List ℕ → List ℕ → List ℕ
products [] ys = []
products (x ∷ xs) [] = []
products (x ∷ xs) (y ∷ ys) = bit_and x y ∷ products xs ys

-- r joined to share i, and r with both cross products to share j
abbrev pub crossed : List ℕ → List ℕ → ℕ → ℕ → ℕ → List ℕ → List ℕ
crossed xs ys i j r os =
    let half = set os i (bit_xor (slice_index os i) r) in
    slice_set half j (bit_xor (slice_index half j) (bit_xor (bit_xor r (bit_and (slice_index xs i) (slice_index ys j))) (bit_and (slice_index xs j) (slice_index ys i))))

-- each pair in turn, with a word of its own
abbrev pub crossed_all : List ℕ → List ℕ → List (ℕ × ℕ) → List ℕ → List ℕ → List ℕ
crossed_all xs ys [] ws os = os
crossed_all xs ys (p ∷ ps) ws os = crossed_all xs ys ps (drop 1 ws) (crossed xs ys p.0 p.1 (slice_index ws 0) os)

-- the m shares that SecAnd makes of the shares xs and ys with the words ws
abbrev pub conjoined : ℕ → List ℕ → List ℕ → List ℕ → List ℕ
conjoined m xs ys ws = crossed_all xs ys (rows 0 m) ws (products xs ys)
