use Rattle.std.proofs.Common.{◌≡◌, ℕ, List, ◌++◌, length}
use Rattle.shake.specs.Progress.{Absorbing}
use Rattle.shake.proofs.Shake256.absorb.Given as goal

abbrev pub invariant-loop-rest : goal.invariant-loop-rest
invariant-loop-rest l = (front : List ℕ) × (l.bytes ≡ front ++ l.rest) × ((m : List ℕ) → Absorbing m l.initial.self → Absorbing (m ++ front) l.self)

abbrev pub decreases-loop-rest : goal.decreases-loop-rest
decreases-loop-rest l = length l.rest
