use Rattle.std.proofs.Common.{rules}
use Rattle.shares.proofs.Products.{placed_products}
use Rattle.shares.proofs.conjunction.share_products.Goals as goal

pub returns : goal.returns
returns g c = placed_products c.loop-i.share-items c.args.x c.args.y (search rules) (search rules) (λ k h. c.loop-i.invariant.1 k (search rules))
