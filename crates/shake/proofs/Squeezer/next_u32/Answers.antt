use Rattle.std.proofs.Common.{arith}
use Rattle.shake.specs.Sponge.{shake_word}
use Rattle.shake.proofs.Squeezer.next_u32.Goals as goal

pub returns : goal.returns
unfolding shake_word
returns c =
    λ m i a.
    let next = c.next_bytes.ensures m i a in
    let word = rw next.0 at c.from_le_bytes.ensures in
    (omega (arith, word), next.1)
