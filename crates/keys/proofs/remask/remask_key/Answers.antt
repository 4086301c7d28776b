use Rattle.std.proofs.Common.{◌≡◌, ◌*◌, ◌∙◌, arith}
use Rattle.std.proofs.lemmas.Result.{err_from_is_err_and}
use Rattle.polys.proofs.Places.{polynomial-inside, shares-within}
use Rattle.keys.proofs.Refreshing.{going-none, going_more, going-all, going-short}
use Rattle.keys.proofs.remask.remask_key.Goals as goal

pub remask_coefficient-requires-clause-within : goal.remask_coefficient-requires-clause-within
remask_coefficient-requires-clause-within g c = c.loop-c.invariant.within c.loop-c.c (omega arith)

pub loop-c-init : goal.loop-c-init
loop-c-init g c =
    let s = g.S.ParamSet.params in
    let least = g.S.ParamSet.sound.n_least in
    going-none s g.row.M c.args.key.now (g.W.Source.flow c.args.masks.now) (λ k h. shares-within s.n g.row.M s.p c.args.key.now k (omega arith) (polynomial-inside s.n g.row.M (omega arith) 2 k c.args.key.now h c.requires.area.sized) c.requires.area.residues)

pub loop-c-preserved : goal.loop-c-preserved
loop-c-preserved g c =
    let d = c.in_ok-remask_coefficient.ensures in
    going_more g.S.ParamSet.params g.row.M c.args.key.now (g.W.Source.flow c.args.masks.now) record { refreshed = d.refreshed; others = d.others } c.loop-c.invariant

pub returns : goal.returns
returns g c =
    let least = g.S.ParamSet.sound.n_least in
    let e : c.loop-c.c ≡ 2 * g.S.ParamSet.params.n = omega arith in
    going-all g.S.ParamSet.params g.row.M c.args.key.now (g.W.Source.flow c.args.masks.now) (omega arith) (c.loop-c.auto.key ∙ c.requires.area.sized) e c.loop-c.invariant

pub returns-in_err-remask_coefficient : goal.returns-in_err-remask_coefficient
returns-in_err-remask_coefficient g c =
    let d = c.in_err-remask_coefficient.ensures in
    let least = g.S.ParamSet.sound.n_least in
    let p = err_from_is_err_and c.from_residual.result c.from_residual.ensures.1 in
    rw (p.1, p.2) (going-short g.S.ParamSet.params g.row.M c.args.key.now (g.W.Source.flow c.args.masks.now) (omega arith) (c.remask_coefficient.auto.key ∙ c.loop-c.auto.key ∙ c.requires.area.sized) (let h = c.loop-c-test.true in let b = c.coefficients-c-end.ensures in omega arith) record { refreshed = d.refreshed; others = d.others } c.loop-c.invariant)
