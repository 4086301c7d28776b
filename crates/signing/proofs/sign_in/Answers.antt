use Rattle.std.proofs.Common.{◌≡◌, ◌<◌, refl, ◌∙◌, arith}
use Rattle.std.specs.NonZero.{non_zero_u32_get}
use Rattle.std.proofs.lemmas.Result.{err_from_is_err_and}
use Rattle.signing.proofs.Going.{going-first, going_more, ends-signed, ends-halted, ends-failed}
use Rattle.signing.proofs.sign_in.Goals as goal

pub attempts-init : goal.attempts-init
attempts-init g c =
    let least = g.S.ParamSet.sound.n_least in
    let some : 0 < g.row.M = omega (arith, c.requires.shares, c.args.subject.shares.some) in
    (refl, going-first g.S.ParamSet.params g.row.M some (omega arith) _ (non_zero_u32_get c.args.tries) _ _ c.args.tries.ok)

pub returns-in_err-passed : goal.returns-in_err-passed
returns-in_err-passed g c =
    let least = g.S.ParamSet.sound.n_least in
    let some : 0 < g.row.M = omega (arith, c.requires.shares, c.args.subject.shares.some) in
    let d = c.in_err-passed.ensures.by in
    let p = err_from_is_err_and c.from_residual.result c.from_residual.ensures.1 in
    rw (p.1, p.2) (ends-halted g.S.ParamSet.params g.row.M some (omega arith) _ (non_zero_u32_get c.args.tries) _ _ c.attempts.number _ _ c.attempts.invariant.1 c.in_err-passed.field-0.0 _ _ _ _ (d.0 ∙ c.attempts.invariant.0) d.1)

pub returns-then-passed : goal.returns-then-passed
returns-then-passed g c =
    let least = g.S.ParamSet.sound.n_least in
    let some : 0 < g.row.M = omega (arith, c.requires.shares, c.args.subject.shares.some) in
    let d = rw c.if-passed.true at c.in_ok-passed.ensures in
    ends-signed g.S.ParamSet.params g.row.M some (omega arith) _ (non_zero_u32_get c.args.tries) _ _ c.attempts.number _ _ c.attempts.invariant.1 _ _ _ _ d.by

pub attempts-preserved : goal.attempts-preserved
attempts-preserved g c =
    let least = g.S.ParamSet.sound.n_least in
    let some : 0 < g.row.M = omega (arith, c.requires.shares, c.args.subject.shares.some) in
    let d = rw c.if-passed.false at c.in_ok-passed.ensures in
    let more : c.attempts.number < non_zero_u32_get c.args.tries = omega arith in
    (d.by.0 ∙ c.attempts.invariant.0, going_more g.S.ParamSet.params g.row.M some (omega arith) _ (non_zero_u32_get c.args.tries) _ _ c.attempts.number _ _ c.attempts.invariant.1 _ _ d.by.1 more)

pub returns-else-passed : goal.returns-else-passed
returns-else-passed g c =
    let least = g.S.ParamSet.sound.n_least in
    let some : 0 < g.row.M = omega (arith, c.requires.shares, c.args.subject.shares.some) in
    let within = c.attempts.invariant.1.within in
    let d = rw c.if-passed.false at c.in_ok-passed.ensures in
    let last : c.attempts.number ≡ non_zero_u32_get c.args.tries = omega arith in
    ends-failed g.S.ParamSet.params g.row.M some (omega arith) _ (non_zero_u32_get c.args.tries) _ _ c.attempts.number _ _ c.attempts.invariant.1 _ _ d.by.1 _ _ last (d.by.0 ∙ c.attempts.invariant.0)
