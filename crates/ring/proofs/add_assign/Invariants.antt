use Rattle.std.proofs.Common.{ℕ, ◌+◌, ◌%◌}
use Rattle.ring.proofs.Loops.{Zipping}
use Rattle.ring.proofs.add_assign.Given as goal

abbrev pub invariant-loop-i : goal.invariant-loop-i
invariant-loop-i g l =
    let p = g.S.ParamSet.params.p in
    Zipping (λ (a b : ℕ). (a + b) % p) l.initial.acc l.x.words.now l.acc l.i
