use Rattle.std.proofs.Common.{◌++◌, ◌∷◌, codes}
use Rattle.refusal.specs.Told.{area_name}
use Rattle.script.specs.Answers.{NoneIs}
use Rattle.script.specs.Lines.{Asks}
use Rattle.script.specs.Words.{Number}
use Rattle.std.proofs.lemmas.Result.{err_from_is_err_and}
use Rattle.std.specs.Str.Iter.{LacksByte}
use Rattle.script.proofs.Heads.{no_poke_at, no_place}
use Rattle.script.proofs.Passed.{judged}
use Rattle.script.proofs.line.poke_at.Goals as goal

pub returns-in_err-index : goal.returns-in_err-index
returns-in_err-index c =
    let place = c.args.place.now in
    let line = codes "poke " ++ (area_name c.args.area ++ (32 ∷ place)) in
    judged (Asks line) (LacksByte 32 place) (NoneIs (Asks line)) c.in_err-index.field-0.0 c.from_residual.result (err_from_is_err_and c.from_residual.result c.from_residual.ensures.1)
    (no_place c.args.area place) c.in_err-index.ensures

pub returns-in_err-read : goal.returns-in_err-read
returns-in_err-read c =
    let place = c.args.place.now in
    let line = codes "poke " ++ (area_name c.args.area ++ (32 ∷ place)) in
    judged (Asks line) (NoneIs (Number 18446744073709551615 c.in_ok-index.index.now)) (NoneIs (Asks line)) c.in_err-read.field-0.0 c.from_residual-in_err-read.result (err_from_is_err_and c.from_residual-in_err-read.result c.from_residual-in_err-read.ensures.1)
    (λ none. no_poke_at c.args.area place _ _ c.in_ok-index.ensures.0 c.in_ok-index.ensures.1 (λ n v h w. none n h)) c.in_err-read.ensures

pub returns-in_err-read-2 : goal.returns-in_err-read-2
returns-in_err-read-2 c =
    let place = c.args.place.now in
    let line = codes "poke " ++ (area_name c.args.area ++ (32 ∷ place)) in
    judged (Asks line) (NoneIs (Number 4294967295 c.in_ok-index.value.now)) (NoneIs (Asks line)) c.in_err-read-2.field-0.0 c.from_residual-in_err-read-2.result (err_from_is_err_and c.from_residual-in_err-read-2.result c.from_residual-in_err-read-2.ensures.1)
    (λ none. no_poke_at c.args.area place _ _ c.in_ok-index.ensures.0 c.in_ok-index.ensures.1 (λ n v h w. none v w)) c.in_err-read-2.ensures
