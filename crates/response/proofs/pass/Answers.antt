use Rattle.std.proofs.Common.{arith, rules}
use Rattle.std.proofs.lemmas.Result.{err_from_is_err_and}
use Rattle.linear.proofs.Sharewise.{word_public}
use Rattle.polys.proofs.Places.{value-below}
use Rattle.response.proofs.Nearness.{passing-none, passing-more, passing-all, passing-short}
use Rattle.response.proofs.pass.Goals as goal

pub coefficients-init : goal.coefficients-init
coefficients-init g c = passing-none g.S.ParamSet.params g.row.M c.args.z.area.now (g.W.Source.flow c.args.masks.now) c.public-pass.result (word_public g.row.M 1 c.args.z.some c.public-pass.ensures)

pub coefficients-preserved : goal.coefficients-preserved
coefficients-preserved g c =
    let s = g.S.ParamSet.params in
    let z = c.args.z.area.now in
    let near = g.S.ParamSet.sound.k_below_p in
    let n = c.coefficients-c-end.ensures in
    let below = value-below s g.row.M g.S.ParamSet.sound 2 c.coefficients.c z (omega arith) c.args.z.sized c.args.z.residues in
    let d = c.in_ok-pass.ensures.by in
    passing-more s g.row.M z (g.W.Source.flow c.args.masks.now) c.coefficients.c c.coefficient.result c.coefficients.pass c.in_ok-pass.pass
    c.coefficient.ensures.shares below (omega arith) d.0 d.1 c.coefficients.invariant

pub returns-in_err-pass : goal.returns-in_err-pass
returns-in_err-pass g c =
    let n = c.coefficients-c-end.ensures in
    let p = err_from_is_err_and c.from_residual.result c.from_residual.ensures.1 in
    rw (p.1, p.2) record { by = passing-short g.S.ParamSet.params g.row.M c.args.z.area.now (g.W.Source.flow c.args.masks.now) c.coefficients.c c.coefficients.pass _ _ _ (omega arith) c.in_err-pass.ensures.by c.coefficients.invariant }

pub returns : goal.returns
returns g c =
    let n = c.coefficients-c-end.ensures in
    record { by = passing-all g.S.ParamSet.params g.row.M c.args.z.area.now (g.W.Source.flow c.args.masks.now) c.coefficients.c c.coefficients.pass (g.W.Source.flow c.coefficients.masks) (omega arith) c.coefficients.invariant }
