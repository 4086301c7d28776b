-- What a call on a meter tells of the lent source.
use Rattle.std.proofs.Common.{◌≡◌, ℕ, ◌+◌, ◌-◌, ◌%◌, ◌^◌, ◌<◌, ◌≤◌, List, length, get_or, drop, Ok, Err, Result, sym, ap, arith}
use Rattle.words.specs.declared.Mark.{Mark}
use Rattle.words.specs.Flow.{Flow, metered}
use Rattle.words.specs.Spending.{Spends}
use Rattle.words.proofs.Spendings.{spends_origin, spends_fewer}

module _ {A : Type 0} {P : A → Type 0} {n : ℕ} (a a' c c' : ℕ) (f f' : Flow) where
  -- the same source is lent
  pub metered-same : (r : Result A Mark) → Spends n r (metered a c f) (metered a' c' f') P → a ≡ a'
  metered-same r s = sym (ap (λ (o : List (ℕ × ℕ)). (get_or o 0 (0, 0)).0) (spends_origin r s))

  -- a spending seen through a meter is one of the lent source
  pub metered-spends : (r : Result A Mark) → Spends n r (metered a c f) (metered a' c' f') P → Spends n r f f' P
  metered-spends (Ok x) s =
      let d = s.by.0 in
      record { by = (record { enough = d.enough; rest = d.rest; mark = d.mark; origin = ap (drop 1) d.origin }, s.by.1) }
  metered-spends (Err e) s =
      let d = s.by in
      record { by = record { few = d.few; rest = d.rest; why = d.why; mark = d.mark; origin = ap (drop 1) d.origin } }

-- a count that began at 0 is the number of words drawn
pub metered_count : {A : Type 0} {P : A → Type 0} {n : ℕ} (a a' c' : ℕ) (f f' : Flow) (r : Result A Mark) → Spends n r (metered a 0 f) (metered a' c' f') P → c' < 2 ^ 64 → length f.words ≤ 2 ^ 40 → c' ≡ length f.words - length f'.words
metered_count a a' c' f f' r s h few =
    let t : (c' + length f'.words) % 2 ^ 64 ≡ (0 + length f.words) % 2 ^ 64 = ap (λ (o : List (ℕ × ℕ)). (get_or o 0 (0, 0)).1) (spends_origin r s) in
    let l : length f'.words ≤ length f.words = spends_fewer r s in
    omega arith
