-- A call's spending, as its answer and what the source then holds.
use Rattle.std.proofs.Common.{◌≡◌, ℕ, ◌-◌, leb, List, length, drop, Ok, Err, sym, ap, ◌∙◌, arith, length-drop}
use Rattle.std.proofs.lemmas.List.{drop_all}
use Rattle.std.proofs.lemmas.Bool.{cond-true, cond-false, le-leb, lt-leb}
use Rattle.refusal.specs.declared.Refusal.TheVariants.{MasksEnded}
use Rattle.words.specs.declared.Mark.{Mark}
use Rattle.words.specs.Flow.{Flow}
use Rattle.words.specs.Spending.{Spent, Short}
use Rattle.keys.specs.Charge.{taken, charged}

flow_is : (f f' : Flow) (ws : List ℕ) → f'.words ≡ ws → f'.mark ≡ f.mark → f'.origin ≡ f.origin → f' ≡ record { words = ws; mark = f.mark; origin = f.origin }
flow_is f f' ws a b d =
    ap (λ (v : List ℕ). record { words = v; mark = f'.mark; origin = f'.origin }) a
    ∙ ap (λ (v : Mark). record { words = ws; mark = v; origin = f'.origin }) b
    ∙ ap (λ (v : List (ℕ × ℕ)). record { words = ws; mark = f.mark; origin = v }) d

module _ {n : ℕ} {f f' : Flow} where
  pub spent-taken : Spent n f f' → f' ≡ taken n f
  spent-taken s = flow_is f f' (drop n f.words) s.rest s.mark s.origin

  pub short-taken : {e : Mark} → Short n e f f' → f' ≡ taken n f
  short-taken s = flow_is f f' (drop n f.words) (s.rest ∙ sym (drop_all n f.words (let h = s.few in omega arith))) s.mark s.origin

  pub spent-charged : {A : Type 0} (x : A) → Spent n f f' → Ok x ≡ charged n f x
  spent-charged x s = sym (cond-true (leb n (length f.words)) (Ok x) (Err (MasksEnded f.mark)) (le-leb n (length f.words) s.enough))

  pub short-charged : {A : Type 0} (x : A) {e : Mark} → Short n e f f' → Err (MasksEnded e) ≡ charged n f x
  short-charged x s = ap (λ (m : Mark). Err (MasksEnded m)) s.why ∙ sym (cond-false (leb n (length f.words)) (Ok x) (Err (MasksEnded f.mark)) (lt-leb n (length f.words) s.few))

  -- a count of the words that went is the cost
  pub spent-count : {k : ℕ} → k ≡ length f.words - length f'.words → Spent n f f' → k ≡ n
  spent-count e s = let long = ap length s.rest ∙ length-drop n f.words in let h = s.enough in omega arith
