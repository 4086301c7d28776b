-- A remask part of the way: the coefficients before c are refreshed, and the others are as before.
use Rattle.std.proofs.Common.{◌≡◌, ℕ, ◌+◌, ◌*◌, ◌<◌, ◌≤◌, leb, ◌≢◌, List, [], ◌∷◌, length, drop, Ok, Err, Result, sym, refl, ap, ◌∙◌, subst, ⊎_elim, arith}
use Rattle.std.proofs.lemmas.List.{drop_all}
use Rattle.std.proofs.lemmas.Bool.{cond-false, lt-leb, cases_lt, cases_eq}
use Rattle.params.specs.Params.{Params}
use Rattle.shares.specs.Rule.{Rule, Within, recombine}
use Rattle.shares.specs.Groups.{residue_rule}
use Rattle.shares.specs.Refresh.{rows, masked, refreshed, Refreshed}
use Rattle.words.specs.declared.Mark.{Mark}
use Rattle.words.specs.Flow.{Flow}
use Rattle.words.specs.Spending.{Spent, Short}
use Rattle.words.proofs.Spendings.{spent_none, spent_then, spent_as, short_then, short_of, times_none, times_more, times_below}
use Rattle.keys.specs.Remask.{refresh_cost, Remasks}
use Rattle.polys.specs.Area.{shares_of}
use Rattle.polys.proofs.Places.{area-within, recombined-same}

-- with no words the shares stay as they are
refreshed_none : (u : Rule) (ps : List (ℕ × ℕ)) (xs : List ℕ) → 0 < u.cost → refreshed u ps [] xs ≡ xs
refreshed_none u [] xs h = refl
refreshed_none u (p ∷ ps) xs h = cond-false (leb u.cost 0) (refreshed u ps (drop u.cost []) (masked u p.0 p.1 (u.mask []) xs)) xs (lt-leb u.cost 0 h)

-- what a call on coefficient c does
pub record Step {A : Type 0} (p n m c : ℕ) (r : Result A Mark) (key key' : List ℕ) (f f' : Flow) : Type 0 where
  pub refreshed : Refreshed (residue_rule p) m r (shares_of n m key c) (shares_of n m key' c) f f'
  pub others : (k : ℕ) → k ≢ c → shares_of n m key' k ≡ shares_of n m key k

module _ (s : Params) (m : ℕ) (key₀ : List ℕ) (f₀ : Flow) where
  abbrev u : Rule
  u = residue_rule s.p

  abbrev turn : ℕ → List ℕ
  turn k = refreshed u (rows 0 m) (drop (k * refresh_cost s m) f₀.words) (shares_of s.n m key₀ k)

  pub record Going (c : ℕ) (key : List ℕ) (f : Flow) : Type 0 where
    pub spent : Spent (c * refresh_cost s m) f₀ f
    pub done : (k : ℕ) → k < c → k < 2 * s.n → shares_of s.n m key k ≡ turn k
    pub left : (k : ℕ) → c ≤ k → k < 2 * s.n → shares_of s.n m key k ≡ shares_of s.n m key₀ k
    pub same : (k : ℕ) → k < 2 * s.n → recombine u (shares_of s.n m key k) ≡ recombine u (shares_of s.n m key₀ k)
    pub within : (k : ℕ) → k < 2 * s.n → Within u (shares_of s.n m key k)

  pub going-none : ((k : ℕ) → k < 2 * s.n → Within u (shares_of s.n m key₀ k)) → Going 0 key₀ f₀
  going-none w = record {
    spent = spent_as (spent_none f₀) (sym (times_none (refresh_cost s m)));
    done = λ k h l. absurd (omega arith);
    left = λ k h l. refl;
    same = λ k h. refl;
    within = w;
  }

  module _ {A : Type 0} {c : ℕ} {r : Result A Mark} {key key' : List ℕ} {f f' : Flow} (t : Step s.p s.n m c r key key' f f') (g : Going c key f) where
    step-here : c < 2 * s.n → shares_of s.n m key' c ≡ turn c
    step-here h =
        t.refreshed.shares
        ∙ ap (λ (ws : List ℕ). refreshed u (rows 0 m) ws (shares_of s.n m key c)) g.spent.rest
        ∙ ap (refreshed u (rows 0 m) (drop (c * refresh_cost s m) f₀.words)) (g.left c (omega arith) h)

    step_same : (k : ℕ) → k < 2 * s.n → recombine u (shares_of s.n m key' k) ≡ recombine u (shares_of s.n m key₀ k)
    step_same k h =
        ⊎_elim
        (λ (e : k ≡ c). subst (λ (j : ℕ). recombine u (shares_of s.n m key' j) ≡ recombine u (shares_of s.n m key j)) (sym e) t.refreshed.same)
        (λ (ne : k ≢ c). ap (recombine u) (t.others k ne))
        (cases_eq k c)
        ∙ g.same k h

    step-within : (k : ℕ) → k < 2 * s.n → Within u (shares_of s.n m key' k)
    step-within k h =
        ⊎_elim
        (λ (e : k ≡ c). subst (λ (j : ℕ). Within u (shares_of s.n m key' j)) (sym e) t.refreshed.within)
        (λ (ne : k ≢ c). subst (Within u) (sym (t.others k ne)) (g.within k h))
        (cases_eq k c)

    step-done : (k : ℕ) → k ≤ c → k < 2 * s.n → shares_of s.n m key' k ≡ turn k
    step-done k l h =
        ⊎_elim
        (λ (e : k ≡ c). subst (λ (j : ℕ). shares_of s.n m key' j ≡ turn j) (sym e) (step-here (omega arith)))
        (λ (ne : k ≢ c). t.others k ne ∙ g.done k (omega arith) h)
        (cases_eq k c)

    step_left : (k : ℕ) → c < k → k < 2 * s.n → shares_of s.n m key' k ≡ shares_of s.n m key₀ k
    step_left k l h = let ne : k ≢ c = omega arith in t.others k ne ∙ g.left k (omega arith) h

  pub going_more : {A : Type 0} {x : A} {c : ℕ} {key key' : List ℕ} {f f' : Flow} → Step s.p s.n m c (Ok x) key key' f f' → Going c key f → Going (c + 1) key' f'
  unfolding refresh_cost
  going_more {c = c} t g = record {
    spent = spent_as (spent_then g.spent t.refreshed.spends.by.0) (times_more c (refresh_cost s m));
    done = λ k h l. step-done t g k (omega arith) l;
    left = λ k h l. step_left t g k (omega arith) l;
    same = step_same t g;
    within = step-within t g;
  }

  pub going-all : {A : Type 0} {x : A} {c : ℕ} {key : List ℕ} {f : Flow} → 0 < s.n → length key ≡ 2 * m * s.n → c ≡ 2 * s.n → Going c key f → Remasks s m (Ok x) key₀ key f₀ f
  going-all {key = key} some long e g = record {
    spends = record { by = (spent_as g.spent (ap (λ (k : ℕ). k * refresh_cost s m) e), tt) };
    shares = λ k l. g.done k (omega arith) l;
    residues = area-within s.n m 2 s.p key some long g.within;
    same = recombined-same s m key₀ key g.same;
  }

  pub going-short : {A B : Type 0} {e : Mark} {c : ℕ} {key key' : List ℕ} {f f' : Flow} → 0 < s.n → length key' ≡ 2 * m * s.n → c < 2 * s.n →
      Step {A = A} s.p s.n m c (Err e) key key' f f' → Going c key f → Remasks {A = B} s m (Err e) key₀ key' f₀ f'
  unfolding refresh_cost
  going-short {c = c} {key' = key'} some long h t g =
      let short : Short (c * refresh_cost s m + refresh_cost s m) _ f₀ _ = short_then g.spent t.refreshed.spends.by in
      record {
        spends = record { by = short_of short (times_below c (2 * s.n) (refresh_cost s m) h) };
        shares = λ k l.
            ⊎_elim
            (λ (b : c < k).
            let few = short.few in
            let less = times_below c k (refresh_cost s m) b in
            step_left t g k b l
            ∙ sym (refreshed_none u (rows 0 m) (shares_of s.n m key₀ k) (omega arith))
            ∙ ap (λ (ws : List ℕ). refreshed u (rows 0 m) ws (shares_of s.n m key₀ k)) (sym (drop_all (k * refresh_cost s m) f₀.words (omega arith))))
            (λ (b : k ≤ c). step-done t g k b l)
            (cases_lt c k);
        residues = area-within s.n m 2 s.p key' some long (step-within t g);
        same = recombined-same s m key₀ key' (step_same t g);
      }
