use Rattle.std.proofs.Common.{◌/◌, ◌^◌, rules}
use Rattle.linear.proofs.Sharewise.{placed, shr_linear}
use Rattle.linear.proofs.top_bit.Goals as goal

pub returns-clause-shares : goal.returns-clause-shares
returns-clause-shares g c k h = let t = c.each.ensures k (search rules) in search rules

pub returns-clause-word : goal.returns-clause-word
returns-clause-word g c = placed (λ x. x / 2 ^ 31) (shr_linear 31) c.each.result c.args.x (search rules) (returns-clause-shares g c)
