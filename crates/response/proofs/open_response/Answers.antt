use Rattle.std.proofs.Common.{ℕ, ◌*◌, ◌<◌, length, pos, ◌∙◌, arith, w16, SFits, rules}
use Rattle.std.proofs.lemmas.Int.{to_z-of_z}
use Rattle.std.proofs.lemmas.Result.{err_from_is_err_and}
use Rattle.ring.specs.Ring.{centre}
use Rattle.shares.specs.Groups.{residue_rule}
use Rattle.shares.specs.Refresh.{pairs}
use Rattle.shares.specs.Rule.{recombine}
use Rattle.polys.specs.Area.{shares_of}
use Rattle.polys.proofs.Filling.{filling-more, filling-all, filling-short}
use Rattle.response.proofs.Nearness.{near_value, centred_values}
use Rattle.response.proofs.open_response.Goals as goal

pub open_centred-requires : goal.open_centred-requires
open_centred-requires g c =
    let s = g.S.ParamSet.params in
    let small = g.S.ParamSet.sound.reach_small in
    let h : c.coefficients.c < 2 * s.n = omega arith in
    let d = near_value s g.row.M c.args.z.area.now c.coefficients.c c.requires.near h in
    (search rules, (h, omega arith))

pub coefficients-preserved : goal.coefficients-preserved
coefficients-preserved g c =
    let d = c.in_ok-coefficient.ensures.by in
    let h : c.coefficients.c < length c.coefficients.out = search rules in
    let fits : SFits w16 c.in_ok-coefficient.field-0 = search rules in
    filling-more (pos 0) _ _ _ c.coefficients.c c.coefficients.out _ _ _ h d.0 (to_z-of_z w16 _ fits ∙ d.1) c.coefficients.invariant

pub returns-in_err-coefficient : goal.returns-in_err-coefficient
returns-in_err-coefficient g c =
    let p = err_from_is_err_and c.from_residual.result c.from_residual.ensures.1 in
    rw (p.1, p.2) record { by = filling-short (pos 0) _ _ _ (2 * g.S.ParamSet.params.n) c.coefficients.c c.coefficients.out _ _ _ (omega arith) c.in_err-coefficient.ensures.by c.coefficients.invariant }

pub returns : goal.returns
returns g c =
    let s = g.S.ParamSet.params in
    let z = c.args.z.area.now in
    let all = filling-all (pos 0) (λ (k : ℕ). centre s.p (recombine (residue_rule s.p) (shares_of s.n g.row.M z k))) ((residue_rule s.p).cost * pairs g.row.M) (g.W.Source.flow c.args.masks.now) (2 * s.n) c.coefficients.c c.coefficients.out (g.W.Source.flow c.coefficients.masks) (omega arith) (c.coefficients.auto.out ∙ c.requires.out) c.coefficients.invariant in
    record { by = (all.0, all.1 ∙ centred_values s g.row.M z) }
