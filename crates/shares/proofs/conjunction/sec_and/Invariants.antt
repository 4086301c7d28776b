use Rattle.std.proofs.Common.{◌+◌, ◌-◌, ◌++◌}
use Rattle.shares.specs.Refresh.{row, rows}
use Rattle.shares.proofs.Crossing.{Crosses}
use Rattle.shares.proofs.conjunction.sec_and.Given as goal

abbrev pub invariant-loop-j : goal.invariant-loop-j
invariant-loop-j g l =
    let s = g.S.Source.flow in
    Crosses l.x l.y (row l.i l.j (g.row.M - l.j) ++ rows (l.i + 1) (g.row.M - (l.i + 1))) l.out (s l.src) (rows l.i (g.row.M - l.i)) l.initial.out (s l.initial.src)

abbrev pub invariant-loop-i : goal.invariant-loop-i
invariant-loop-i g l =
    let s = g.S.Source.flow in
    Crosses l.x l.y (rows l.i (g.row.M - l.i)) l.out (s l.src) (rows 0 g.row.M) l.initial.out (s l.initial.src)
