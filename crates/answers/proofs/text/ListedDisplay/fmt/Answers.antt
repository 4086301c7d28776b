use Rattle.std.proofs.Common.{refl}
use Rattle.std.proofs.Output.{has_written_append}
use Rattle.answers.proofs.text.ListedDisplay.fmt.Goals as goal

pub returns-clause-writes : goal.returns-clause-writes
returns-clause-writes g c = λ plain ok.
    let name = c.in_ok-write.ensures.writes plain refl in
    has_written_append g.W.Write.write_str_gives _ _ _ _ _ name (c.write_words.ensures name.plain ok)
