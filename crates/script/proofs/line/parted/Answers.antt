use Rattle.script.proofs.Split.{parted_is}
use Rattle.script.proofs.line.parted.Goals as goal

pub returns : goal.returns
returns c = parted_is c.args.text.now c.split_once.result c.ok_or.result c.split_once.ensures.cases c.ok_or.ensures.value
