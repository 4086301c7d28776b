use Rattle.std.proofs.Common.{refl, string_bytes}
use Rattle.script.specs.declared.command.Command.TheVariants.{Start}
use Rattle.runner.proofs.Takes.{acted}
use Rattle.runner.proofs.line.take_line.Goals as goal

pub returns-in_ok-new-in-Start : goal.returns-in_ok-new-in-Start
returns-in_ok-new-in-Start c =
    (Start c.in-Start.set, rw c.in-Start.is at c.in_ok-parse.ensures.says, (c.in_ok-new-in-Start.field-0, c.in_ok-new-in-Start.ensures, refl, c.requires))

pub returns-in-Some : goal.returns-in-Some
returns-in-Some c =
    rw c.in-Some.is (acted c.in-Some.world c.carry_out.new.world c.args.line.now c.in-Act.action (rw c.in-Act.is at c.in_ok-parse.ensures.says) (string_bytes c.carry_out.new.text) c.carry_out.result c.carry_out.ensures)
