use Rattle.std.proofs.Common.{refl}
use Rattle.shake.specs.Sponge.{later}
use Rattle.shake.proofs.Blocks.{absorbed_is}
use Rattle.shake.proofs.Shake256.finish.Goals as goal

pub returns : goal.returns
unfolding later
returns c =
    λ m a.
    let s = a.state_is in
    let p = a.place_is in
    let d = absorbed_is m in
    let permuted = c.permute.ensures.permuted in
    (cc, refl)
