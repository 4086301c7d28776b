use Rattle.std.proofs.Common.{◌≡◌, refl, rules}
use Rattle.std.proofs.lemmas.Result.{err_from_is_err_and}
use Rattle.drawing.specs.Drawing.{halted}
use Rattle.attempt.specs.Stages.{outcome_of, attempt_of}
use Rattle.drawing.proofs.Mapping.{kept_ok, mapped_err}
use Rattle.attempt.proofs.stage.Drawn.draw.Goals as goal

pub returns-in_err-map_err-clause-drawn : goal.returns-in_err-map_err-clause-drawn
returns-in_err-map_err-clause-drawn g c =
    let p = mapped_err c.draw.result _ c.map_err.ensures.cases c.in_err-map_err.was in
    let told : (outcome_of c.in_err-map_err.field-0.0 ≡ halted p.0 c.args.number) × (attempt_of c.in_err-map_err.field-0.0 ≡ c.args.number) = search rules in
    let d = rw p.1 at c.draw.ensures.drawn in
    let q = err_from_is_err_and c.from_residual.result c.from_residual.ensures.1 in
    λ u. rw (q.1, q.2) (record { by = record { outcome = _; is = told.0; told = told.1; stops = (d u).by } })

pub returns-clause-drawn : goal.returns-clause-drawn
returns-clause-drawn g c =
    let d = rw (kept_ok c.draw.result _ c.map_err.ensures.cases c.in_ok-map_err.was) at c.draw.ensures.drawn in
    λ u. record { by = (refl, (d u).by) }
