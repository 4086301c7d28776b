use Rattle.std.proofs.Common.{string_bytes}
use Rattle.runner.proofs.Takes.{untold}
use Rattle.runner.proofs.line.told_line.Goals as goal

pub returns-in-Err-NotUnderstood : goal.returns-in-Err-NotUnderstood
returns-in-Err-NotUnderstood c =
    untold c.args.world.now c.take_line.new.world c.args.line.now c.args.number (rw c.in-Err-NotUnderstood.field-0-is at c.in-Err-NotUnderstood.ensures) (string_bytes c.not_understood.new.text) c.not_understood.result c.not_understood.ensures
