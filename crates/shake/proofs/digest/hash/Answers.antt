use Rattle.std.proofs.Common.{[]}
use Rattle.shake.specs.Sponge.{shake256}
use Rattle.shake.proofs.digest.hash.Goals as goal

pub returns : goal.returns
unfolding shake256
returns c =
    let m = c.args.message.now in
    (c.squeeze.ensures m 0 (c.finish-squeezer.ensures m (c.absorb.ensures [] c.new-hasher.ensures))).0
