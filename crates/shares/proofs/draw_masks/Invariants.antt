use Rattle.std.proofs.Common.{◌+◌, ◌-◌}
use Rattle.shares.proofs.Drawing.{Drawing}
use Rattle.shares.proofs.draw_masks.Given as goal

-- the first place is filled from the start
abbrev pub invariant-loop-i : goal.invariant-loop-i
invariant-loop-i g l = Drawing g.G.Group.rule g.row.M (l.i + (1 - l.i)) l.share-items (g.S.Source.flow l.initial.src) (g.S.Source.flow l.src)
