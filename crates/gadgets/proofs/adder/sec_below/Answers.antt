use Rattle.std.proofs.Common.{◌≡◌, ℕ, ◌+◌, ◌-◌, ◌/◌, ◌%◌, ◌^◌, ap, ◌∙◌, arith}
use Rattle.words.proofs.Spendings.{spent_as, spent_then}
use Rattle.shares.specs.Groups.{word_of}
use Rattle.linear.proofs.Sharewise.{word_public}
use Rattle.gadgets.proofs.Selection.{top_below}
use Rattle.gadgets.proofs.adder.sec_below.Goals as goal

pub returns : goal.returns
returns g c =
    let limit = c.args.limit in
    let k = limit.value in
    let e : word_of c.in_ok-minus.minus ≡ 2 ^ 32 - k = c.in_ok-minus.ensures.by.1.2 ∙ word_public g.row.M _ c.requires.some c.public.ensures ∙ c.negated.ensures in
    record {
      by = (
        spent_as (spent_then c.in_ok-minus.ensures.by.0 c.in_ok-difference.ensures.by.0) (omega arith),
        c.top_bit.ensures.word ∙ ap (λ (v : ℕ). v / 2 ^ 31) (c.in_ok-difference.ensures.by.1 ∙ ap (λ (v : ℕ). (word_of c.args.x + v) % 2 ^ 32) e)
            ∙ top_below (word_of c.args.x) k c.requires.small limit.some limit.small,
      );
    }
