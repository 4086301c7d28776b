use Rattle.std.proofs.Common.{ℕ, ◌+◌, ◌*◌, ◌/◌, ◌%◌, ◌<◌, ◌≤◌, get_or, set, ap, arith}
use lib.Bits.{bit_xor}
use Rattle.std.proofs.lemmas.Nat.{shl_whole}
use Rattle.shake.specs.Sponge.{xor_byte}
use Rattle.shake.proofs.block.xor_byte.Goals as goal

pub returns : goal.returns
unfolding xor_byte
returns c =
    let s = c.args.state.now in
    let k : ℕ = c.args.pos in
    let h : c.args.byte < 256 = omega arith in
    let l : 8 + 8 * (k % 8) ≤ 64 = omega arith in
    ap (λ (v : ℕ). set s (k / 8) (bit_xor (get_or s (k / 8) 0) v)) (shl_whole c.args.byte 8 (8 * (k % 8)) 64 h l)
