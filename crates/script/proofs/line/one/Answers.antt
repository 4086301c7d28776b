use Rattle.std.proofs.Common.{ℕ, List, Option, Bor, sym, subst}
use Rattle.std.proofs.lemmas.Result.{err_from_is_err_and}
use Rattle.script.specs.Answers.{NoneIs}
use Rattle.script.specs.Lines.{Valued, spaced}
use Rattle.script.proofs.Named.{judges_value, no_value_alone, none_there}
use Rattle.script.proofs.Passed.{Judged, judged}
use Rattle.script.proofs.line.one.Goals as goal

pub returns-in_err-ok_or : goal.returns-in_err-ok_or
returns-in_err-ok_or g c =
    let write = g.T.Entry.writes in
    let none = none_there c.args.rest c.in_err-ok_or.field-0.0 c.in_err-ok_or.ensures.value in
    judged (λ x. (name : List ℕ) → Valued write name (spaced name c.args.rest) x) (Unit {0}) ((name : List ℕ) → NoneIs (Valued write name (spaced name c.args.rest))) c.in_err-ok_or.field-0.0 c.from_residual.result
    (err_from_is_err_and c.from_residual.result c.from_residual.ensures.1)
    (λ _. λ name. subst (λ (rest : Option (Bor (List ℕ))). NoneIs (Valued write name (spaced name rest))) (sym none.0) (no_value_alone write name))
    (subst (Judged (Unit {0})) (sym none.1) tt)

pub returns : goal.returns
returns g c = judges_value g.T.Entry.writes c.args.rest c.in_ok-ok_or.field-0 c.read.result c.in_ok-ok_or.ensures.ok_part c.read.ensures
