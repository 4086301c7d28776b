use Rattle.std.proofs.Common.{rules}
use Rattle.std.proofs.lemmas.Result.{err_from_is_err_and}
use Rattle.script.specs.Answers.{NoneIs}
use Rattle.script.specs.Lines.{Quiet, Says}
use Rattle.script.proofs.Ascii.{no_text}
use Rattle.script.proofs.Passed.{refused}
use Rattle.script.specs.declared.unread.Unread.TheVariants.{NotUnderstood}
use Rattle.script.proofs.line.parse.Goals as goal

pub returns-in_err-from_utf8-in_default-clause-says : goal.returns-in_err-from_utf8-in_default-clause-says
returns-in_err-from_utf8-in_default-clause-says c =
    let line = c.args.line.now in
    let loud : Quiet line → ⊥ = search rules in
    refused (Says line) (Unit {0}) (NoneIs (Says line)) NotUnderstood c.from_residual.result (err_from_is_err_and c.from_residual.result c.from_residual.ensures.1) (λ _. no_text line loud c.in_err-from_utf8-in_default.ensures.cases.0) tt
