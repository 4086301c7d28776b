use Rattle.script.proofs.Named.{reads_values}
use Rattle.script.proofs.line.listed.Goals as goal

pub returns-in-Some : goal.returns-in-Some
returns-in-Some g c = reads_values g.T.Entry.writes c.args.rest c.in-Some.text c.numbers.result c.in-Some.is c.numbers.ensures
