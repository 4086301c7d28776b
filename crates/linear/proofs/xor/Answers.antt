use Rattle.std.proofs.Common.{rules}
use Rattle.linear.proofs.Sharewise.{placed_xor}
use Rattle.linear.proofs.xor.Goals as goal

pub returns-clause-word : goal.returns-clause-word
returns-clause-word g c = placed_xor c.loop-i.share-items c.args.x c.args.y (search rules) (search rules) (λ k h. c.loop-i.invariant.1 k (search rules))
