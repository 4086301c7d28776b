use Rattle.std.proofs.Common.{◌≡◌, ℕ, ◌<◌, length, get_or}
use Rattle.words.specs.Spending.{Spent}
use Rattle.steps.proofs.draw_shares.Given as goal

abbrev pub invariant-loop-share : goal.invariant-loop-share
invariant-loop-share g l =
    let s = g.S.Source.flow in
    (length l.share-items ≡ g.row.M) × ((k : ℕ) → k < l.share-index → get_or l.share-items k 0 ≡ get_or (s l.initial.src).words k 0) × Spent l.share-index (s l.initial.src) (s l.src)
