use Rattle.std.proofs.Common.{◌≡◌, ℕ, ◌<◌, length, get_or}
use Rattle.polys.specs.Area.{place}
use Rattle.polys.proofs.column.gather.Given as goal

abbrev pub invariant-loop-i : goal.invariant-loop-i
invariant-loop-i g l = (length l.share-items ≡ g.row.M) × ((k : ℕ) → k < l.i → get_or l.share-items k 0 ≡ get_or l.area (place l.n g.row.M l.c k) 0)
