use Rattle.std.proofs.Common.{◌+◌, [], ◌∷◌, ap, ◌∙◌}
use Rattle.shake.specs.Progress.{passed}
use Rattle.shake.proofs.Feed.{absorbing_more}
use Rattle.shake.proofs.Shake256.absorb_byte.Goals as goal

pub returns : goal.returns
returns c =
    λ m a.
    let s = c.advance.ensures.state ∙ ap (passed (c.args.self.now.sponge.pos + 1)) c.xor_byte.ensures in
    absorbing_more m (c.args.byte ∷ []) c.args.self.now _ a s c.advance.ensures.place
