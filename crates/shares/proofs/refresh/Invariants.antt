use Rattle.std.proofs.Common.{◌+◌, ◌-◌, ◌++◌}
use Rattle.shares.specs.Refresh.{row, rows}
use Rattle.shares.proofs.Progress.{Goes}
use Rattle.shares.proofs.refresh.Given as goal

abbrev pub invariant-loop-j : goal.invariant-loop-j
invariant-loop-j g l =
    let u = g.G.Group.rule in
    let s = g.S.Source.flow in
    Goes u (row l.i l.j (g.row.M - l.j) ++ rows (l.i + 1) (g.row.M - (l.i + 1))) l.shares (s l.src) (rows l.i (g.row.M - l.i)) l.initial.shares (s l.initial.src)

abbrev pub invariant-loop-i : goal.invariant-loop-i
invariant-loop-i g l =
    let u = g.G.Group.rule in
    let s = g.S.Source.flow in
    Goes u (rows l.i (g.row.M - l.i)) l.shares (s l.src) (rows 0 g.row.M) l.initial.shares (s l.initial.src)
