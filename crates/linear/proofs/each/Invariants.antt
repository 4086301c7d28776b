use Rattle.std.proofs.Common.{get_or}
use Rattle.linear.proofs.Sharewise.{Made}
use Rattle.linear.proofs.each.Given as goal

abbrev pub invariant-loop-share : goal.invariant-loop-share
invariant-loop-share g l = Made (λ k. goal.F-post g l.f (get_or l.initial.share-items k 0)) l.initial.share-items l.share-items l.share-index
