use Rattle.std.proofs.Common.{◌≡◌, ℕ, ◌+◌, ◌/◌, ◌%◌, ◌<◌, ◌≤◌, List, [], ◌∷◌, length, sym, ap, ◌∙◌, arith}
use Rattle.shake.specs.Sponge.{xor_bytes}
use Rattle.shake.specs.Progress.{passed, fed}
use Rattle.shake.proofs.Feed.{fed_within, absorbing_more}
use Rattle.shake.proofs.Lane.{lane_is, eight_number, each_byte}
use Rattle.shake.proofs.Shake256.absorb_lane.Goals as goal

fed-lane : (s : List ℕ) (k : ℕ) (bs : List ℕ) → length bs ≡ 8 → k + 8 ≤ 136 → passed (k + 8) (xor_bytes s k bs) ≡ fed s k bs
fed-lane s k [] n l = let f : ⊥ = omega arith in absurd f
fed-lane s k (b ∷ bs) n l =
    let e : k + 8 ≡ k + 1 + length bs = omega arith in
    let le : k + 1 + length bs ≤ 136 = omega arith in
    ap (λ (p : ℕ). passed p (xor_bytes s k (b ∷ bs))) e ∙ sym (fed_within s k b bs le)

pub returns : goal.returns
returns c =
    λ m a.
    let s : List ℕ = c.args.self.now.sponge.state in
    let k : ℕ = c.args.self.now.sponge.pos in
    let bs : List ℕ = c.args.bytes.now in
    let l : k / 8 < length s = omega arith in
    let le : k + 8 ≤ 136 = omega (arith, c.requires) in
    let place : c.advance.new.self.pos ≡ (k + length bs) % 136 = omega arith in
    let w = eight_number bs c.from_le_bytes.result c.told-bytes c.from_le_bytes.ensures in
    let x = lane_is s k c.from_le_bytes.result bs l c.requires c.told-bytes (each_byte bs c.fits-bytes) w in
    absorbing_more m bs c.args.self.now _ a (c.advance.ensures.state ∙ ap (passed (k + 8)) x ∙ fed-lane s k bs c.told-bytes le) place
