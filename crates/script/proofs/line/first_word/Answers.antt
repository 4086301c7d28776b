use Rattle.std.proofs.Common.{Some, None, lit<}
use Rattle.std.proofs.lemmas.Str.Pattern.{split_parts}
use Rattle.script.proofs.line.first_word.Goals as goal

pub returns-in-Some-clause-solid : goal.returns-in-Some-clause-solid
returns-in-Some-clause-solid c = (split_parts 32 c.args.text.now (Some (c.in-Some.word, c.in-Some.rest)) c.in-Some.ensures.cases (lit< tt)).1

pub returns-in-None-clause-solid : goal.returns-in-None-clause-solid
returns-in-None-clause-solid c = split_parts 32 c.args.text.now None c.in-None.ensures.cases (lit< tt)
