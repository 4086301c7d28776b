use Rattle.std.proofs.Common.{◌≡◌, ℕ, ◌+◌, ◌-◌, ◌<◌, ◌≤◌, get_or}
use Rattle.ring.specs.Ring.{negate}
use Rattle.ring.proofs.turn.Given as goal

abbrev pub invariant-loop-i : goal.invariant-loop-i
invariant-loop-i g l =
    let p = g.S.ParamSet.params.p in
    let n = g.S.ParamSet.params.n in
    let b = l.b.words.now in
    (k : ℕ) → k < n → n ≤ k + l.i → (get_or l.out k 0 ≡ get_or b (n - 1 - k) 0) × (get_or l.out (n + k) 0 ≡ negate p (get_or b (n - 1 - k) 0))
