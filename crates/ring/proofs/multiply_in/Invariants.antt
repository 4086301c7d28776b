use Rattle.std.proofs.Common.{◌≡◌, ℕ, ◌<◌, get_or}
use Rattle.ring.specs.Ring.{product}
use Rattle.ring.proofs.multiply_in.Given as goal

abbrev pub invariant-loop-j : goal.invariant-loop-j
invariant-loop-j g l = (k : ℕ) → k < l.j → get_or l.out k 0 ≡ get_or (product g.S.ParamSet.params.p l.a l.b) k 0
