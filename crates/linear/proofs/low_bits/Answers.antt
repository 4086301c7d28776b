use Rattle.std.proofs.Common.{◌≡◌, ℕ, ◌-◌, ◌*◌, ◌%◌, ◌^◌, ap, ◌∙◌, sym, get_or, arith, rules}
use lib.Bits.{bit_and, and_mask}
use Rattle.std.proofs.lemmas.Nat.{one_shl}
use Rattle.shares.specs.Groups.{word_of}
use Rattle.linear.proofs.Sharewise.{placed, and_linear}
use Rattle.linear.proofs.low_bits.Goals as goal

pub returns-clause-shares : goal.returns-clause-shares
returns-clause-shares g c k h =
    let t = c.each.ensures k (search rules) in
    let e : get_or c.each.result k 0 ≡ bit_and (get_or c.args.x k 0) ((1 * 2 ^ c.args.bits) % 2 ^ 32 - 1) = search rules in
    e ∙ ap (λ (n : ℕ). bit_and (get_or c.args.x k 0) (n - 1)) (one_shl c.args.bits 32 (omega arith)) ∙ and_mask (get_or c.args.x k 0) c.args.bits

pub returns-clause-word : goal.returns-clause-word
returns-clause-word g c =
    let m : ℕ = 2 ^ c.args.bits - 1 in
    placed (λ x. bit_and x m) (and_linear m) c.each.result c.args.x (search rules) (λ k h. returns-clause-shares g c k h ∙ sym (and_mask (get_or c.args.x k 0) c.args.bits))
    ∙ and_mask (word_of c.args.x) c.args.bits
