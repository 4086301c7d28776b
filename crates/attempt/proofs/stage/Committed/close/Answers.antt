use Rattle.std.proofs.Common.{◌≡◌, map, sym, ap, ◌∙◌, inl, inr, rules, arith}
use Rattle.std.proofs.lemmas.Result.{err_from_is_err_and}
use Rattle.record.specs.Reading.{all_near}
use Rattle.ring.specs.Ring.{centre}
use Rattle.words.proofs.Spendings.{short_of, short_then, spent_then}
use Rattle.polys.specs.Area.{recombined}
use Rattle.plain.specs.Costs.{cost}
use Rattle.refusal.specs.declared.fault.Step.TheVariants.{Check, Open}
use Rattle.steps.specs.declared.Ended.TheVariants.{Masks}
use Rattle.drawing.proofs.Mapping.{kept_ok, mapped_err}
use Rattle.attempt.proofs.stage.Committed.close.Goals as goal

pub returns-in_err-passes : goal.returns-in_err-passes
unfolding cost
returns-in_err-passes g c =
    let p = mapped_err c.check.result _ c.map_err.ensures.cases c.in_err-passes.was in
    let told : c.in_err-passes.field-0.0 ≡ Masks (record { mark = p.0; attempt = c.args.self.number; step = Check }) = search rules in
    let d = rw p.1 at c.check.ensures in
    let q = err_from_is_err_and c.from_residual.result c.from_residual.ensures.1 in
    rw (q.1, q.2) (record { by = inl record { mark = p.0; is = told; paid = omega arith; short = short_of d.by (omega arith) } })

pub returns-then-not-passes : goal.returns-then-not-passes
unfolding cost
returns-then-not-passes g c =
    let s = g.S.ParamSet.params in
    let d = rw (kept_ok c.check.result _ c.map_err.ensures.cases c.in_ok-passes.was) at c.check.ensures in
    let z = ap (map (centre s.p)) (ap (recombined s g.row.M) c.new-z.ensures ∙ c.respond_rows.ensures.value) in
    record { by = (ap (all_near s) (sym z) ∙ sym d.by.1 ∙ c.if-not-passes.true, d.by.0) }

pub returns-in_err-map_err : goal.returns-in_err-map_err
unfolding cost
returns-in_err-map_err g c =
    let s = g.S.ParamSet.params in
    let d = rw (kept_ok c.check.result _ c.map_err.ensures.cases c.in_ok-passes.was) at c.check.ensures in
    let z = ap (map (centre s.p)) (ap (recombined s g.row.M) c.new-z.ensures ∙ c.respond_rows.ensures.value) in
    let p = mapped_err c.open_response.result _ c.map_err-2.ensures.cases c.in_err-map_err.was in
    let told : c.in_err-map_err.field-0.0 ≡ Masks (record { mark = p.0; attempt = c.args.self.number; step = Open }) = search rules in
    let o = rw p.1 at c.open_response.ensures in
    let q = err_from_is_err_and c.from_residual-in_err-map_err.result c.from_residual-in_err-map_err.ensures.1 in
    rw (q.1, q.2) (record { by = inr (ap (all_near s) (sym z) ∙ sym d.by.1 ∙ c.if-not-passes.false, record { mark = p.0; is = told; paid = d.by.0.enough; short = short_then d.by.0 o.by }) })

pub returns : goal.returns
unfolding cost
returns g c =
    let s = g.S.ParamSet.params in
    let d = rw (kept_ok c.check.result _ c.map_err.ensures.cases c.in_ok-passes.was) at c.check.ensures in
    let o = rw (kept_ok c.open_response.result _ c.map_err-2.ensures.cases c.in_ok-map_err.was) at c.open_response.ensures in
    let z = ap (map (centre s.p)) (ap (recombined s g.row.M) c.new-z.ensures ∙ c.respond_rows.ensures.value) in
    record { by = (ap (all_near s) (sym z) ∙ sym d.by.1 ∙ c.if-not-passes.false, spent_then d.by.0 o.by.0, o.by.1 ∙ z) }
