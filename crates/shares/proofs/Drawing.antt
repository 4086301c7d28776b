-- Masks drawn one after another, in the places behind the unit.
use Rattle.std.proofs.Common.{◌≡◌, ℕ, zero, suc, ◌+◌, ◌-◌, ◌*◌, ◌<◌, List, [], ◌∷◌, ◌++◌, length, take, drop, set, replicate, sym, ap, ◌∙◌, subst, suc-mul, mul_comm, arith, length-set}
use lib.ListN.{length-replicate}
use Rattle.std.proofs.lemmas.List.{drop-drop, take_all, take_more_set, take-replicate, get_or-replicate}
use Rattle.shares.specs.Rule.{Rule, Laws, Within, Masks, masks}
use Rattle.shares.proofs.Pairs.{set-within}
use Rattle.words.specs.declared.Mark.{Mark}
use Rattle.words.specs.Flow.{Flow}
use Rattle.words.specs.Spending.{Spent, Short}
use Rattle.words.proofs.Spendings.{spent_none, spent_then, spent_as, short_then, short_of, times_none, times_more, times_below}

module _ (u : Rule) where
  -- one mask more
  masks-push : (k : ℕ) (ws : List ℕ) → masks u (suc k) ws ≡ masks u k ws ++ u.mask (drop (k * u.cost) ws) ∷ []
  masks-push zero ws = ap (λ (n : ℕ). u.mask (drop n ws) ∷ []) (sym (times_none u.cost))
  masks-push (suc k) ws =
      ap (λ (rs : List ℕ). u.mask ws ∷ rs) (masks-push k (drop u.cost ws))
      ∙ ap (λ (vs : List ℕ). u.mask ws ∷ (masks u k (drop u.cost ws) ++ u.mask vs ∷ [])) (drop-drop (k * u.cost) u.cost ws)
      ∙ ap (λ (n : ℕ). u.mask ws ∷ (masks u k (drop u.cost ws) ++ u.mask (drop n ws) ∷ [])) (let e = suc-mul k u.cost in omega arith)

  -- the shares before the i-th are drawn
  pub record Drawing (m i : ℕ) (xs : List ℕ) (f₀ f : Flow) : Type 0 where
    pub long : length xs ≡ m
    pub front : take i xs ≡ u.unit ∷ masks u (i - 1) f₀.words
    pub spent : Spent ((i - 1) * u.cost) f₀ f
    pub within : Within u xs

  pub drawing-none : (m : ℕ) (x : ℕ) (f : Flow) → Laws u → 0 < m → x ≡ u.unit → Drawing m 1 (replicate m x) f f
  drawing-none m x f laws h e = record {
    long = length-replicate m x;
    front = take-replicate 1 m x h ∙ ap (λ (v : ℕ). v ∷ []) e;
    spent = spent_as (spent_none f) (sym (times_none u.cost));
    within = λ k l. let b : k < m = let long = length-replicate m x in omega arith in subst (λ (v : ℕ). v < u.order) (sym (get_or-replicate m k x 0 b ∙ e)) laws.unit_in;
  }

  pub drawing-as : {m i j : ℕ} {xs : List ℕ} {f₀ f : Flow} → i ≡ j → Drawing m i xs f₀ f → Drawing m j xs f₀ f
  drawing-as {m = m} {xs = xs} {f₀ = f₀} {f = f} e d = subst (λ (k : ℕ). Drawing m k xs f₀ f) e d

  pub drawing-more : (m i y : ℕ) (xs : List ℕ) (f₀ f f' : Flow) → Laws u → 0 < i → i < m → Spent u.cost f f' → Masks u f.words y → Drawing m i xs f₀ f → Drawing m (i + 1) (set xs i y) f₀ f'
  drawing-more m i y xs f₀ f f' laws some less s e d =
      let inside : i < length xs = let long = d.long in omega arith in
      let next : i + 1 - 1 ≡ suc (i - 1) = omega arith in
      let next' : i + 1 - 1 ≡ i - 1 + 1 = omega arith in
      record {
        long = length-set xs i y ∙ d.long;
        front =
            take_more_set xs i y inside
            ∙ ap (λ (rs : List ℕ). rs ++ y ∷ []) d.front
            ∙ ap (λ (v : ℕ). u.unit ∷ (masks u (i - 1) f₀.words ++ v ∷ [])) (e.1 ∙ ap u.mask d.spent.rest)
            ∙ ap (λ (rs : List ℕ). u.unit ∷ rs) (sym (masks-push (i - 1) f₀.words))
            ∙ ap (λ (k : ℕ). u.unit ∷ masks u k f₀.words) (sym next);
        spent = spent_as (spent_then d.spent s) (times_more (i - 1) u.cost ∙ ap (λ (k : ℕ). k * u.cost) (sym next'));
        within = set-within u laws xs i y d.within e.0;
      }

  pub drawing-all : (m i : ℕ) (xs : List ℕ) (f₀ f : Flow) → i ≡ m → Drawing m i xs f₀ f → Spent (u.cost * (m - 1)) f₀ f × ((xs ≡ u.unit ∷ masks u (m - 1) f₀.words) × Within u xs)
  drawing-all m i xs f₀ f e d = (
    spent_as d.spent (ap (λ (k : ℕ). (k - 1) * u.cost) e ∙ mul_comm (m - 1) u.cost),
    (sym (take_all i xs (let long = d.long in omega arith)) ∙ d.front ∙ ap (λ (k : ℕ). u.unit ∷ masks u (k - 1) f₀.words) e, d.within),
  )

  pub drawing-short : (m i : ℕ) (e : Mark) (xs : List ℕ) (f₀ f f' : Flow) → 0 < i → i < m → Short u.cost e f f' → Drawing m i xs f₀ f → Short (u.cost * (m - 1)) e f₀ f'
  drawing-short m i e xs f₀ f f' some less s d =
      let b = times_below (i - 1) (m - 1) u.cost (omega arith) in
      let c = mul_comm (m - 1) u.cost in
      short_of (short_then d.spent s) (omega arith)
