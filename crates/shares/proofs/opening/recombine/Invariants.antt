use Rattle.shares.proofs.Folding.{Left}
use Rattle.shares.proofs.opening.recombine.Given as goal

abbrev pub invariant-loop-share : goal.invariant-loop-share
invariant-loop-share g l = Left g.G.Group.rule g.G.Group.laws l.share-items l.value l.share-index
