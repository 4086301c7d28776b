-- The key area: the polynomials s1 and s2 in m shares.
use Rattle.std.specs.Prelude.{◌≡◌, ℕ, ◌*◌, List, length}
use Rattle.params.specs.Params.{Params}
use Rattle.ring.specs.Ring.{Residues}

-- a key area of m shares has its size and holds residues
pub record KeyArea (s : Params) (m : ℕ) (key : List ℕ) : Type 0 where
  pub sized : length key ≡ 2 * m * s.n
  pub residues : Residues s.p key
