-- Nonces: candidates made of groups of nonce words, and the coefficients that the accepted ones stand for.
use Rattle.std.specs.Prelude.{ℕ, zero, suc, ◌+◌, ◌-◌, ◌*◌, ◌/◌, ◌%◌, ◌^◌, ◌<◌, ◌≤◌, cond, List, [], ◌∷◌, map, length, take, drop, nat_lt}
use Rattle.params.specs.Params.{Params}
use Rattle.shares.specs.Groups.{word_of}

-- a candidate is accepted where it is below 2k + 1, and then stands for a coefficient from −k to k
abbrev pub limit : Params → ℕ
limit s = 2 * s.k + 1

-- the first w, from one on and among so many, with 2 ^ w above x
unfoldable pub bits_from : ℕ → ℕ → ℕ → ℕ
bits_from zero w x = w
bits_from (suc more) w x = cond (nat_lt x (2 ^ w)) w (bits_from more (w + 1) x)

-- how many low bits of a nonce word make a candidate: the least w with 2 ^ w above the limit
unfoldable pub bits : Params → ℕ
bits s = bits_from 24 0 (limit s)

-- w is the least with 2 ^ w above x
pub record LeastBits (x w : ℕ) : Type 0 where
  pub above : x < 2 ^ w
  pub least : (v : ℕ) → x < 2 ^ v → w ≤ v

-- the first k groups of m words
abbrev pub groups : ℕ → ℕ → List ℕ → List (List ℕ)
groups m zero ws = []
groups m (suc k) ws = take m ws ∷ groups m k (drop m ws)

-- the whole groups of a list of words, and the words of a last group that is cut short
unfoldable pub whole : ℕ → List ℕ → List (List ℕ)
whole m ws = groups m (length ws / m) ws

unfoldable pub cut_short : ℕ → List ℕ → List ℕ
cut_short m ws = drop (m * (length ws / m)) ws

-- the candidate that a group of words shares: the low bits of their exclusive or
unfoldable pub candidate : Params → List ℕ → ℕ
candidate s g = word_of g % 2 ^ bits s

-- the candidates of a nonce list of m shares: its recombined nonces
abbrev pub candidates : Params → ℕ → List ℕ → List ℕ
candidates s m ws = map (candidate s) (whole m ws)

-- the coefficient that a candidate x stands for: the residue of x − k
unfoldable pub coefficient : Params → ℕ → ℕ
coefficient s x = (x + (s.p - s.k)) % s.p

-- the coefficients that the accepted candidates stand for
abbrev pub nonces : Params → List ℕ → List ℕ
nonces s [] = []
nonces s (x ∷ xs) = cond (nat_lt x (limit s)) (coefficient s x ∷ nonces s xs) (nonces s xs)
