use Rattle.std.proofs.Common.{◌≡◌, ℕ, ◌<◌, ◌≢◌, get_or}
use Rattle.polys.specs.Area.{place}
use Rattle.polys.proofs.column.scatter.Given as goal

abbrev pub invariant-loop-i : goal.invariant-loop-i
invariant-loop-i g l =
    ((k : ℕ) → k < l.i → get_or l.area (place l.n g.row.M l.c k) 0 ≡ get_or l.share-items k 0)
    × ((k j : ℕ) → k ≢ l.c → j < g.row.M → get_or l.area (place l.n g.row.M k j) 0 ≡ get_or l.initial.area (place l.n g.row.M k j) 0)
