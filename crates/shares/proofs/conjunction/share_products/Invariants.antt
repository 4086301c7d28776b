use Rattle.std.proofs.Common.{◌≡◌, ℕ, ◌<◌, ◌≤◌, length, get_or}
use lib.Bits.{bit_and}
use Rattle.shares.proofs.conjunction.share_products.Given as goal

abbrev pub invariant-loop-i : goal.invariant-loop-i
invariant-loop-i g l =
    (length l.share-items ≡ g.row.M)
    × ((k : ℕ) → k < l.i → get_or l.share-items k 0 ≡ bit_and (get_or l.initial.share-items k 0) (get_or l.y k 0))
    × ((k : ℕ) → l.i ≤ k → get_or l.share-items k 0 ≡ get_or l.initial.share-items k 0)
