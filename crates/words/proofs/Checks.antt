-- What a health check lets through is the longest front with no c equal words in a row.
use Rattle.std.proofs.Common.{◌≡◌, ℕ, zero, suc, ◌+◌, ◌<◌, ◌≤◌, true, false, eqb, ltb, ◌⊎◌, List, [], ◌∷◌, ◌++◌, length, get_or, take, drop, replicate, sym, refl, ap, ◌∙◌, inl, inr, append_assoc, append-nil, arith, length-append}
use Rattle.std.proofs.lemmas.List.{length-replicate, replicate_more, get_or-replicate, get_or_append_left, get_or_at}
use Rattle.std.proofs.lemmas.Bool.{eq-eqb, ne_eqb, lt-ltb, le-ltb, cases_eq, cases_lt}
use Rattle.words.specs.declared.Mark.{Mark}
use Rattle.words.specs.declared.Mark.TheVariants.{Unhealthy}
use Rattle.words.specs.Flow.{Flow}
use Rattle.words.specs.Health.{Repeats, Steady, withheld, checked}

repeats_as : {c : ℕ} {xs ys : List ℕ} → xs ≡ ys → Repeats c xs → Repeats c ys
repeats_as e p = record { front = p.front; word = p.word; back = p.back; is = sym e ∙ p.is }

repeats_after : {c : ℕ} {xs : List ℕ} (before : List ℕ) → Repeats c xs → Repeats c (before ++ xs)
repeats_after {c = c} before p = record {
  front = before ++ p.front;
  word = p.word;
  back = p.back;
  is = ap (λ xs. before ++ xs) p.is ∙ sym (append_assoc before p.front (replicate c p.word ++ p.back));
}

-- one equal word more
run_on : (r l w : ℕ) (xs : List ℕ) → w ≡ l → replicate (r + 1) w ++ xs ≡ replicate r l ++ (w ∷ xs)
run_on r l w xs e = ap (λ ys. ys ++ xs) (sym (replicate_more r w)) ∙ append_assoc (replicate r w) (w ∷ []) xs ∙ ap (λ v. replicate r v ++ (w ∷ xs)) e

module _ (c : ℕ) where
  short-steady : (ws : List ℕ) → length ws < c → Repeats c ws → ⊥
  short-steady ws h p =
      let e = ap length p.is in
      let a = length-append p.front (replicate c p.word ++ p.back) in
      let b = length-append (replicate c p.word) p.back in
      let d = length-replicate c p.word in
      omega arith

  -- a run shorter than c that another word ends is no part of c equal words
  other-steady : (l w : ℕ) (ws : List ℕ) → (w ≡ l → ⊥) → (Repeats c (w ∷ ws) → ⊥) → (r : ℕ) (front : List ℕ) (v : ℕ) (back : List ℕ) → r < c → replicate r l ++ (w ∷ ws) ≡ front ++ (replicate c v ++ back) → ⊥
  other-steady l w ws ne none zero front v back h e = none record { front = front; word = v; back = back; is = e }
  other-steady l w ws ne none (suc r) [] v back h e =
      let long = length-replicate c v in
      let at : (k : ℕ) → k < c → get_or (replicate c v ++ back) k 0 ≡ v = λ k less. get_or_append_left (replicate c v) back 0 k (omega arith) ∙ get_or-replicate c k v 0 less in
      let first : l ≡ v = ap (λ xs. get_or xs 0 0) e ∙ at 0 (omega arith) in
      let end : w ≡ v = sym (get_or_at (replicate (suc r) l) w ws 0 (suc r) (length-replicate (suc r) l)) ∙ ap (λ xs. get_or xs (suc r) 0) e ∙ at (suc r) h in
      ne (end ∙ sym first)
  other-steady l w ws ne none (suc r) (x ∷ front) v back h e = other-steady l w ws ne none r front v back (omega arith) (ap (drop 1) e)

  module _ (m : Mark) (o : List (ℕ × ℕ)) where
    -- f is what passes of ws after a run of r words l
    record Passing (l r : ℕ) (ws : List ℕ) (f : Flow) : Type 0 where
      front : f.words ≡ take (length f.words) ws
      steady : Repeats c (replicate r l ++ f.words) → ⊥
      longest : ((f.words ≡ ws) × (f.mark ≡ m)) ⊎ ((length f.words < length ws) × Repeats c (replicate r l ++ take (length f.words + 1) ws) × (f.mark ≡ Unhealthy))
      origin : f.origin ≡ o

    abbrev put : ℕ → Flow → Flow
    put w f = record { words = w ∷ f.words; mark = f.mark; origin = f.origin }

    alone-steady : (l r : ℕ) → r < c → Repeats c (replicate r l ++ []) → ⊥
    alone-steady l r h = short-steady (replicate r l ++ []) (let a = length-append (replicate r l) [] in let b = length-replicate r l in omega arith)

    stops : (l r w : ℕ) (ws : List ℕ) → w ≡ l → r + 1 ≡ c → Passing l r (w ∷ ws) (withheld o)
    stops l r w ws e h = record {
      front = refl;
      steady = alone-steady l r (omega arith);
      longest = inr (
        omega arith,
        record {
          front = [];
          word = l;
          back = [];
          is = ap (λ v. replicate r l ++ v ∷ []) e ∙ replicate_more r l ∙ ap (λ n. replicate n l) h ∙ sym (append-nil (replicate c l));
        },
        refl,
      );
      origin = refl;
    }

    same_more : (l r w : ℕ) (ws : List ℕ) (f : Flow) → w ≡ l → Passing w (r + 1) ws f → Passing l r (w ∷ ws) (put w f)
    same_more l r w ws f e s =
        let n : suc (length f.words) + 1 ≡ suc (length f.words + 1) = omega arith in
        record {
          front = ap (λ xs. w ∷ xs) s.front;
          steady = λ p. s.steady (repeats_as (sym (run_on r l w f.words e)) p);
          longest = elim s.longest [
            | inl q ↦ inl (ap (λ xs. w ∷ xs) q.0, q.1)
            | inr q ↦ inr (let h = q.0 in omega arith, repeats_as (run_on r l w (take (length f.words + 1) ws) e ∙ ap (λ k. replicate r l ++ take k (w ∷ ws)) (sym n)) q.1, q.2)
          ];
          origin = s.origin;
        }

    other-more : (l r w : ℕ) (ws : List ℕ) (f : Flow) → (w ≡ l → ⊥) → r < c → Passing w 1 ws f → Passing l r (w ∷ ws) (put w f)
    other-more l r w ws f ne h s =
        let n : suc (length f.words) + 1 ≡ suc (length f.words + 1) = omega arith in
        record {
          front = ap (λ xs. w ∷ xs) s.front;
          steady = λ p. other-steady l w f.words ne s.steady r p.front p.word p.back h p.is;
          longest = elim s.longest [
            | inl q ↦ inl (ap (λ xs. w ∷ xs) q.0, q.1)
            | inr q ↦ inr (let h = q.0 in omega arith, repeats_as (ap (λ k. replicate r l ++ take k (w ∷ ws)) (sym n)) (repeats_after (replicate r l) q.1), q.2)
          ];
          origin = s.origin;
        }

    passes : 2 ≤ c → (l r : ℕ) (ws : List ℕ) → r < c → Passing l r ws (checked c l r ws m o)
    passes two l r [] h = record { front = refl; steady = alone-steady l r h; longest = inl (refl, refl); origin = refl }
    passes two l r (w ∷ ws) h =
        elim (cases_eq w l) [
          | inl e ↦
              (let a : eqb w l ≡ true = eq-eqb w l e in
              elim (cases_lt (r + 1) c) [
                | inl k ↦ (let b : ltb (r + 1) c ≡ true = lt-ltb (r + 1) c k in rw (a, b) (same_more l r w ws (checked c w (r + 1) ws m o) e (passes two w (r + 1) ws k)))
                | inr k ↦ (let b : ltb (r + 1) c ≡ false = le-ltb (r + 1) c k in rw (a, b) (stops l r w ws e (omega arith)))
              ])
          | inr ne ↦
              (let a : eqb w l ≡ false = ne_eqb w l ne in
              let one : 1 < c = omega arith in
              let b : ltb 1 c ≡ true = lt-ltb 1 c one in
              rw (a, b) (other-more l r w ws (checked c w 1 ws m o) ne h (passes two w 1 ws one)))
        ]

pub steady_from_start : (c : ℕ) (f : Flow) → 2 ≤ c → Steady c f (checked c 0 0 f.words f.mark f.origin)
steady_from_start c f two =
    let s = passes c f.mark f.origin two 0 0 f.words (omega arith) in
    record {
      front = s.front;
      steady = s.steady;
      longest = elim s.longest [
        | inl q ↦ inl record { words = q.0; mark = q.1 }
        | inr q ↦ inr record { more = q.0; repeats = q.1; mark = q.2 }
      ];
      origin = s.origin;
    }
