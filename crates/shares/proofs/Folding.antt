-- What a loop over shares has still to join.
use Rattle.std.proofs.Common.{◌≡◌, ℕ, zero, suc, ◌+◌, ◌<◌, ◌≤◌, List, [], ◌∷◌, length, get_or, drop, sym, refl, ap, ◌∙◌, le_of_suc-le-suc, not-suc-le-zero, add-one, drop-cons}
use Rattle.shares.specs.Rule.{Rule, Laws, Within, recombine}
use Rattle.shares.proofs.Pairs.{recombine-in}

pub drop_all : (xs : List ℕ) (i : ℕ) → length xs ≤ i → drop i xs ≡ []
drop_all [] zero h = refl
drop_all [] (suc i) h = refl
drop_all (x ∷ xs) zero h = absurd (not-suc-le-zero h)
drop_all (x ∷ xs) (suc i) h = drop_all xs i (le_of_suc-le-suc h)

module _ (u : Rule) (laws : Laws u) where
  -- v joined with the shares from share i on is the whole
  pub record Left (xs : List ℕ) (v i : ℕ) : Type 0 where
    pub in_range : v < u.order
    pub whole : u.op v (recombine u (drop i xs)) ≡ recombine u xs

  pub left-none : (xs : List ℕ) → Within u xs → Left xs u.unit 0
  left-none xs w = record { in_range = laws.unit_in; whole = laws.comm u.unit (recombine u xs) ∙ laws.neutral (recombine u xs) (recombine-in u laws xs w) }

  pub left-more : (xs : List ℕ) (v i : ℕ) → i < length xs → Within u xs → Left xs v i → Left xs (u.op v (get_or xs i 0)) (i + 1)
  left-more xs v i h w l =
      let e : recombine u (drop i xs) ≡ u.op (get_or xs i 0) (recombine u (drop (i + 1) xs)) =
      ap (recombine u) (drop-cons xs i 0 h) ∙ ap (λ (j : ℕ). u.op (get_or xs i 0) (recombine u (drop j xs))) (sym (add-one i)) in
      record {
        in_range = laws.closed v (get_or xs i 0) l.in_range (w i h);
        whole = laws.assoc v (get_or xs i 0) (recombine u (drop (i + 1) xs)) ∙ ap (u.op v) (sym e) ∙ l.whole;
      }

  pub left-all : (xs : List ℕ) (v i : ℕ) → length xs ≤ i → Left xs v i → v ≡ recombine u xs
  left-all xs v i h l = sym (ap (λ (r : List ℕ). u.op v (recombine u r)) (drop_all xs i h) ∙ laws.neutral v l.in_range) ∙ l.whole
