use Rattle.keys.proofs.Refreshing.{Going}
use Rattle.keys.proofs.remask.remask_key.Given as goal

abbrev pub invariant-loop-c : goal.invariant-loop-c
invariant-loop-c g l = Going g.S.ParamSet.params g.row.M l.initial.key (g.W.Source.flow l.initial.masks) l.c l.key (g.W.Source.flow l.masks)
