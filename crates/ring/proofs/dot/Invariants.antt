use Rattle.std.proofs.Common.{◌≡◌, ◌+◌, ◌*◌, ◌^◌, ◌<◌, drop}
use Rattle.ring.specs.Long.{dot}
use Rattle.ring.proofs.dot.Given as goal

abbrev pub invariant-loop-i : goal.invariant-loop-i
invariant-loop-i g l = (l.sum + dot (drop l.i l.a.words.now) (drop l.i l.b.words.now) ≡ dot l.a.words.now l.b.words.now) × (l.sum < l.i * 2 ^ 48 + 1)
