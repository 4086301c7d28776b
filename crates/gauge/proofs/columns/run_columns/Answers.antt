use Rattle.std.proofs.Common.{arith}
use Rattle.std.proofs.lemmas.Result.{err_from_is_err_and}
use Rattle.polys.specs.Area.{shares_of}
use Rattle.gauge.specs.Gauge.{Gives, cost}
use Rattle.gauge.proofs.Going.{going_more, going-short}
use Rattle.gauge.proofs.columns.run_columns.Goals as goal

pub returns-in_err-z : goal.returns-in_err-z
returns-in_err-z g c =
    let m = g.row.M in
    let p = err_from_is_err_and c.from_residual.result c.from_residual.ensures.1 in
    rw (p.1, p.2) record { by = going-short (λ k. Gives g.S.ParamSet.params m g.G.Step.gadget (shares_of 512 m c.args.x.now k) (shares_of 512 m c.args.y.now k)) m (cost g.G.Step.gadget m) (g.W.Source.flow c.args.masks.now) c.loop-c.c c.loop-c.out _ _ _ (omega arith) c.in_err-z.ensures.by c.loop-c.invariant }

pub loop-c-preserved : goal.loop-c-preserved
loop-c-preserved g c =
    let m = g.row.M in
    let d = c.in_ok-z.ensures.by in
    let here = rw (c.gather.ensures, c.gather-in-loop-c.ensures) at d.1 in
    going_more (λ k. Gives g.S.ParamSet.params m g.G.Step.gadget (shares_of 512 m c.args.x.now k) (shares_of 512 m c.args.y.now k)) m (cost g.G.Step.gadget m) (g.W.Source.flow c.args.masks.now) c.loop-c.c c.in_ok-z.z c.loop-c.out c.scatter.new.area _ _ d.0 here c.scatter.ensures.written c.scatter.ensures.others c.loop-c.invariant
