-- The public area that a load leaves.
use Rattle.std.proofs.Common.{ℕ, ◌<◌, List, take, drop, ℤ}
use Rattle.params.specs.Params.{Params}
use Rattle.ring.proofs.Polynomials.{residues_append, plus-residues}
use Rattle.ring.specs.Ring.{Residues, product}
use Rattle.keys.specs.Load.{public_key, residues_of}

pub public_residues : (s : Params) (secret : List ℤ) (public : List ℕ) → 0 < s.p → Residues s.p (take s.n public) → Residues s.p (public_key s secret public)
public_residues s secret public h r =
    residues_append s.p (take s.n public) _ r (plus-residues s.p (product s.p (take s.n public) (take s.n (residues_of s secret))) (drop s.n (residues_of s secret)) h)
