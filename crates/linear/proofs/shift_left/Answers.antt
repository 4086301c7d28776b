use Rattle.std.proofs.Common.{rules}
use Rattle.linear.proofs.Sharewise.{placed, shift_linear}
use Rattle.linear.specs.Words.{shifted}
use Rattle.linear.proofs.shift_left.Goals as goal

pub returns-clause-shares : goal.returns-clause-shares
returns-clause-shares g c k h = let t = c.each.ensures k (search rules) in search rules

pub returns-clause-word : goal.returns-clause-word
returns-clause-word g c = placed (shifted c.args.places) (shift_linear c.args.places) c.each.result c.args.x (search rules) (returns-clause-shares g c)
