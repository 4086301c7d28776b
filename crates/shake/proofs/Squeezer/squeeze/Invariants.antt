use Rattle.std.proofs.Common.{◌≡◌, ℕ, ◌+◌, List, map, take}
use Rattle.std.specs.List.{range_with_len}
use Rattle.shake.specs.Sponge.{shake_byte}
use Rattle.shake.specs.Progress.{Reading}
use Rattle.shake.proofs.Squeezer.squeeze.Given as goal

abbrev pub invariant-loop-byte : goal.invariant-loop-byte
invariant-loop-byte l =
    (m : List ℕ) (i : ℕ) → Reading m i l.initial.self
    → (take l.byte-index l.out ≡ map (shake_byte m) (range_with_len i l.byte-index)) × Reading m (i + l.byte-index) l.self
