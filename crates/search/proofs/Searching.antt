-- The first place at which a test holds: the steps of a loop, and the law.
use Rattle.std.proofs.Common.{◌≡◌, ℕ, zero, suc, ◌+◌, ◌<◌, ◌≤◌, Bool, true, false, cond, List, [], ◌∷◌, ◌++◌, length, get_or, drop, Some, None, sym, refl, ap, ◌∙◌, subst, ⊎_elim, arith}
use Rattle.std.proofs.lemmas.List.{at_drop_more, at_drop_all, append-nil, append_assoc, length-append, get_or_append_left, get_or_at}
use Rattle.std.proofs.lemmas.Bool.{cond_both, cond-true, cond-false, cases_lt}
use Rattle.std.proofs.lemmas.Iterator.Adapters.{position_from-zero}
use Rattle.std.specs.List.{position, position_from}
use Rattle.search.specs.First.{first_from, first_at, First}

-- what `position` answers
position_from-first : {A : Type 0} (test : A → Bool) (i : ℕ) (xs : List A) → position_from test i xs ≡ first_from test i xs
position_from-first test i [] = refl
position_from-first test i (x ∷ xs) = ap (cond (test x) (Some i)) (position_from-first test (i + 1) xs)

pub position-first : {A : Type 0} (test : A → Bool) (xs : List A) → position test xs ≡ first_at test xs
position-first test xs = position_from-zero test xs ∙ position_from-first test 0 xs

module _ {A : Type 0} (d : A) (test : A → Bool) where
  -- a loop over the places: the test holds at i, it fails at i, no place is left
  pub hit-here : (xs : List A) (i : ℕ) → i < length xs → test (get_or xs i d) ≡ true → first_from test i (drop i xs) ≡ Some i
  hit-here xs i l e = at_drop_more (first_from test i) xs i d l ∙ cond-true (test (get_or xs i d)) (Some i) (first_from test (i + 1) (drop (i + 1) xs)) e

  pub miss-here : (xs : List A) (i : ℕ) → i < length xs → test (get_or xs i d) ≡ false → first_from test i (drop i xs) ≡ first_from test (i + 1) (drop (i + 1) xs)
  miss-here xs i l e = at_drop_more (first_from test i) xs i d l ∙ cond-false (test (get_or xs i d)) (Some i) (first_from test (i + 1) (drop (i + 1) xs)) e

  pub none_left : (xs : List A) (i : ℕ) → length xs ≤ i → first_from test i (drop i xs) ≡ None
  none_left xs i l = at_drop_all (first_from test i) xs i l

  abbrev Fails : List A → Type 0
  Fails xs = (k : ℕ) → k < length xs → test (get_or xs k d) ≡ false

  fails-push : (fs : List A) (x : A) → Fails fs → test x ≡ false → Fails (fs ++ x ∷ [])
  fails-push fs x none e k h =
      ⊎_elim
      (λ (l : k < length fs). ap test (get_or_append_left fs (x ∷ []) d k l) ∙ none k l)
      (λ (l : length fs ≤ k). ap test (get_or_at fs x [] d k (omega (arith, length-append fs (x ∷ [])))) ∙ e)
      (cases_lt k (length fs))

  -- where the test fails at each of fs, the search goes on behind them
  first-behind : (fs xs : List A) → Fails fs → First d test (fs ++ xs) (first_from test (length fs) xs)
  first-behind fs [] none = subst Fails (sym (append-nil fs)) none
  first-behind fs (x ∷ xs) none =
      cond_both (test x) (Some (length fs)) (first_from test (length fs + 1) xs) (First d test (fs ++ x ∷ xs))
      (λ e. (
        omega (arith, length-append fs (x ∷ xs)),
        ap test (get_or_at fs x xs d (length fs) refl) ∙ e,
        λ k l. ap test (get_or_append_left fs (x ∷ xs) d k l) ∙ none k l,
      ))
      (λ e.
      subst (λ (ys : List A). First d test ys (first_from test (length fs + 1) xs)) (append_assoc fs (x ∷ []) xs)
      (subst (λ (i : ℕ). First d test ((fs ++ x ∷ []) ++ xs) (first_from test i xs)) (length-append fs (x ∷ []))
      (first-behind (fs ++ x ∷ []) xs (fails-push fs x none e))))

  -- the definition meets the law
  pub first-is : (xs : List A) → First d test xs (first_at test xs)
  first-is xs = first-behind [] xs (λ k h. absurd (omega arith))

  pub none_hits : (xs : List A) → first_at test xs ≡ None → (k : ℕ) → k < length xs → test (get_or xs k d) ≡ false
  none_hits xs e = subst (First d test xs) e (first-is xs)

  none_from : (i : ℕ) (xs : List A) → Fails xs → first_from test i xs ≡ None
  none_from i [] none = refl
  none_from i (x ∷ xs) none =
      cond-false (test x) (Some i) (first_from test (i + 1) xs) (none zero (omega arith)) ∙ none_from (i + 1) xs (λ k h. none (suc k) (omega arith))

  pub all-miss : (xs : List A) → ((k : ℕ) → k < length xs → test (get_or xs k d) ≡ false) → first_at test xs ≡ None
  all-miss = none_from 0
