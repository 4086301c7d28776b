use Rattle.polys.specs.Area.{shares_of}
use Rattle.gauge.specs.Gauge.{Gives, cost}
use Rattle.gauge.proofs.Going.{Going}
use Rattle.gauge.proofs.columns.run_columns.Given as goal

abbrev pub invariant-loop-c : goal.invariant-loop-c
invariant-loop-c g l =
    let m = g.row.M in
    Going (λ k. Gives g.S.ParamSet.params m g.G.Step.gadget (shares_of 512 m l.x k) (shares_of 512 m l.y k)) m (cost g.G.Step.gadget m) (g.W.Source.flow l.initial.masks) l.c l.out (g.W.Source.flow l.masks)
