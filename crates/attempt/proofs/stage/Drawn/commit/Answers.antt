use Rattle.std.proofs.Common.{◌≡◌, ℕ, List, refl, ap, ◌∙◌, rules, arith}
use Rattle.std.proofs.lemmas.Result.{err_from_is_err_and}
use Rattle.words.proofs.Spendings.{short_of}
use Rattle.polys.specs.Area.{values}
use Rattle.plain.specs.Costs.{cost}
use Rattle.refusal.specs.declared.fault.Step.TheVariants.{Commit}
use Rattle.steps.specs.declared.Ended.TheVariants.{Masks}
use Rattle.drawing.proofs.Mapping.{kept_ok, mapped_err}
use Rattle.attempt.proofs.stage.Drawn.commit.Goals as goal

pub returns-in_err-map_err : goal.returns-in_err-map_err
unfolding cost
returns-in_err-map_err g c =
    let p = mapped_err c.open_poly.result _ c.map_err.ensures.cases c.in_err-map_err.was in
    let told : c.in_err-map_err.field-0.0 ≡ Masks (record { mark = p.0; attempt = c.args.self.number; step = Commit }) = search rules in
    let d = rw p.1 at c.open_poly.ensures.opened in
    let q = err_from_is_err_and c.from_residual.result c.from_residual.ensures.1 in
    rw (q.1, q.2) (record { by = record { mark = p.0; is = told; paid = omega arith; short = short_of d.by (omega arith) } })

pub returns : goal.returns
unfolding cost
returns g c =
    let s = g.S.ParamSet.params in
    let d = rw (kept_ok c.open_poly.result _ c.map_err.ensures.cases c.in_ok-map_err.was) at c.open_poly.ensures.opened in
    record { by = (refl, d.by.0, d.by.1 ∙ ap (λ (r : List ℕ). values s g.row.M s.n r) c.new-r.ensures ∙ c.commit_rows.ensures.value) }
