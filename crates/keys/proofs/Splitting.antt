-- Shares made of masks and a value.
use Rattle.std.proofs.Common.{◌≡◌, ℕ, suc, ◌-◌, ◌<◌, List, ◌∷◌, set, sym, ap, ◌∙◌, subst, arith}
use Rattle.shares.specs.Rule.{Rule, Laws, Within, masks, recombine}
use Rattle.shares.proofs.Pairs.{recombine-in, set-within}
use Rattle.keys.specs.Load.{split, Splits}

module _ (u : Rule) where
  -- the value less the sum of the others makes shares of the value
  pub splits : (m v y sum : ℕ) (ws xs : List ℕ) → Laws u → v < u.order → xs ≡ u.unit ∷ masks u (m - 1) ws → Within u xs → sum ≡ recombine u xs → y ≡ u.op v (u.inverse sum) → Splits u m ws v (set xs 0 y)
  unfolding split
  splits m v y sum ws xs laws h e w a b =
      let rs = masks u (m - 1) ws in
      let all : Within u (u.unit ∷ rs) = subst (Within u) e w in
      let tail : Within u rs = λ k l. all (suc k) (omega arith) in
      let total = recombine-in u laws rs tail in
      let s : sum ≡ recombine u rs = a ∙ ap (recombine u) e ∙ laws.comm u.unit (recombine u rs) ∙ laws.neutral (recombine u rs) total in
      let i : y ≡ u.op v (u.inverse (recombine u rs)) = b ∙ ap (λ (z : ℕ). u.op v (u.inverse z)) s in
      let is : set xs 0 y ≡ split u m ws v = ap (λ (zs : List ℕ). set zs 0 y) e ∙ ap (λ (z : ℕ). z ∷ rs) i in
      let small : y < u.order = subst (λ (z : ℕ). z < u.order) (sym i) (laws.closed v (u.inverse (recombine u rs)) h (laws.inverse_in (recombine u rs) total)) in
      record {
        is = is;
        within = set-within u laws xs 0 y w small;
        value =
            ap (recombine u) is
            ∙ laws.assoc v (u.inverse (recombine u rs)) (recombine u rs)
            ∙ ap (u.op v) (laws.comm (u.inverse (recombine u rs)) (recombine u rs) ∙ laws.undoes (recombine u rs) total)
            ∙ laws.neutral v h;
      }
