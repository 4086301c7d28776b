use Rattle.std.proofs.Common.{ℕ, ◌/◌, ◌^◌, get_or, sym, ◌∙◌, w32, Fits, rules}
use Rattle.linear.proofs.Sharewise.{placed, spread, spread_top_linear, top_is, word_fits}
use Rattle.linear.proofs.spread_top_bit.Goals as goal

pub returns-clause-shares : goal.returns-clause-shares
returns-clause-shares g c k h = let t = c.each.ensures k (search rules) in search rules

pub returns-clause-word : goal.returns-clause-word
returns-clause-word g c =
    let fx : (k : ℕ) → Fits w32 (get_or c.args.x k 0) = λ k. search rules in
    placed (λ x. spread (x / 2 ^ 31)) spread_top_linear c.each.result c.args.x (search rules)
    (λ k h. returns-clause-shares g c k h ∙ top_is (get_or c.args.x k 0) (fx k).fits)
    ∙ sym (top_is _ (word_fits 32 c.args.x (λ k. (fx k).fits)))
