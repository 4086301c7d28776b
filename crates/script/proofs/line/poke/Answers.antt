use Rattle.std.proofs.Common.{◌≢◌, List, Option, Bor, ℕ, codes, sym, subst}
use Rattle.refusal.specs.Told.{area_name}
use Rattle.refusal.specs.declared.Area.{Area}
use Rattle.std.proofs.lemmas.Result.{err_from_is_err_and}
use Rattle.std.specs.Str.Iter.{LacksByte}
use Rattle.script.specs.Answers.{NoneIs}
use Rattle.script.specs.Lines.{Asks, spaced}
use Rattle.script.proofs.Heads.{no_area, no_name}
use Rattle.script.proofs.Passed.{judged}
use Rattle.script.proofs.line.poke.Goals as goal

pub returns-in_err-name : goal.returns-in_err-name
returns-in_err-name c =
    let text = c.in_ok-ok_or.field-0.now in
    let line = spaced (codes "poke") c.args.rest in
    judged (Asks line) (LacksByte 32 text) (NoneIs (Asks line)) c.in_err-name.field-0.0 c.from_residual-in_err-name.result (err_from_is_err_and c.from_residual-in_err-name.result c.from_residual-in_err-name.ensures.1)
    (λ lacks. subst (λ (o : Option (Bor (List ℕ))). NoneIs (Asks (spaced (codes "poke") o))) (sym c.in_ok-ok_or.ensures.ok_part) (no_name text lacks)) c.in_err-name.ensures

pub returns-in_err-named_area : goal.returns-in_err-named_area
returns-in_err-named_area c =
    let text = c.in_ok-ok_or.field-0.now in
    let name = c.in_ok-name.name.now in
    let line = spaced (codes "poke") c.args.rest in
    judged (Asks line) ((area : Area) → name ≢ area_name area) (NoneIs (Asks line)) c.in_err-named_area.field-0.0 c.from_residual-in_err-named_area.result
    (err_from_is_err_and c.from_residual-in_err-named_area.result c.from_residual-in_err-named_area.ensures.1)
    (λ none. subst (λ (o : Option (Bor (List ℕ))). NoneIs (Asks (spaced (codes "poke") o))) (sym c.in_ok-ok_or.ensures.ok_part) (no_area text name c.in_ok-name.place.now c.in_ok-name.ensures.0 c.in_ok-name.ensures.1 none)) c.in_err-named_area.ensures
