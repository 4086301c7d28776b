use Rattle.std.proofs.Common.{◌≡◌, ℕ, ◌*◌, List, drop}
use Rattle.challenge.proofs.fill_from.Given as goal
use Rattle.challenge.specs.Challenge.{filled, stream}
use Rattle.shake.specs.Progress.{Reading}

abbrev pub invariant-words : goal.invariant-words
invariant-words g l =
    let s = g.S.ParamSet.params in
    (m : List ℕ) → Reading m 0 l.initial.words
    → Reading m (2 * l.counter) l.words × (filled s l.wanted (drop l.counter (stream m)) l.c ≡ filled s l.initial.wanted (stream m) l.initial.c)
