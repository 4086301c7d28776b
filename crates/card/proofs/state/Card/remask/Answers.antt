use Rattle.std.proofs.Common.{◌≡◌, rules}
use Rattle.std.proofs.lemmas.Result.{err_from_is_err_and}
use Rattle.refusal.specs.declared.Refusal.TheVariants.{MasksEnded}
use Rattle.drawing.proofs.Mapping.{kept_ok, mapped_err}
use Rattle.card.proofs.Ending.{remask-done, remask-ended}
use Rattle.card.proofs.state.Card.remask.Goals as goal

pub returns-in_err-map_err : goal.returns-in_err-map_err
returns-in_err-map_err g c =
    let d = c.remask_counted-ending.ensures in
    let r = c.remask_counted-ending.result.0 in
    let p = mapped_err r _ c.map_err.ensures.cases c.in_err-map_err.was in
    let told : c.in_err-map_err.field-0.0 ≡ MasksEnded p.0 = search rules in
    let q = err_from_is_err_and c.from_residual-in_err-map_err.result c.from_residual-in_err-map_err.ensures.1 in
    rw (q.1, q.2, told) (record {
      remasked = remask-ended g.S.ParamSet.params c.args.self.now.shares.count c.in_ok-check_key.ensures.0 r d.remasks p.0 p.1;
      same = d.remasks.same;
      residues = λ _. d.remasks.residues;
    })

pub returns : goal.returns
returns g c =
    let d = c.remask_counted-ending.ensures in
    let r = c.remask_counted-ending.result.0 in
    record {
      remasked = remask-done g.S.ParamSet.params c.args.self.now.shares.count c.in_ok-check_key.ensures.0 r d.remasks c.in_ok-map_err.field-0 c.remask_counted-ending.result.1 (kept_ok r _ c.map_err.ensures.cases c.in_ok-map_err.was) d.count;
      same = d.remasks.same;
      residues = λ _. d.remasks.residues;
    }
