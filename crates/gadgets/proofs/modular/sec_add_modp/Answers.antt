use Rattle.std.proofs.Common.{ℕ, ◌-◌, ◌^◌, ap, ◌∙◌, arith}
use Rattle.words.proofs.Spendings.{spent_as, spent_then}
use lib.Bits.{bit_xor}
use Rattle.linear.proofs.Sharewise.{word_public}
use Rattle.gadgets.proofs.Selection.{sum_modp}
use Rattle.gadgets.proofs.modular.sec_add_modp.Goals as goal

pub returns : goal.returns
returns g c =
    record {
      by = (
        spent_as (spent_then (spent_then (spent_then (spent_then (spent_then c.in_ok-sum.ensures.by.0 c.in_ok-less.ensures.by.0) c.in_ok-keep.ensures.by.0) c.in_ok-kept.ensures.by.0) c.in_ok-drop.ensures.by.0) c.in_ok-reduced.ensures.by.0) (omega arith),
        sum_modp g.P.ParamSet.params.p _ _ _ _ _ _ _ _ _ _ g.P.ParamSet.sound.p_small c.requires.first c.requires.second
            c.in_ok-sum.ensures.by.1 (word_public g.row.M _ c.requires.some c.public.ensures ∙ c.negated.ensures ∙ ap (λ (v : ℕ). 2 ^ 32 - v) c.modulus.ensures) c.in_ok-less.ensures.by.1
            (c.in_ok-keep.ensures.by.1.2 ∙ c.spread_top_bit-negative.ensures.word)
            c.in_ok-kept.ensures.by.1.1
            (c.not.ensures.word ∙ ap (λ (v : ℕ). bit_xor v (2 ^ 32 - 1)) (c.in_ok-drop.ensures.by.1.2 ∙ c.spread_top_bit-negative.ensures.word))
            c.in_ok-reduced.ensures.by.1.1 c.xor.ensures.word,
      );
    }
