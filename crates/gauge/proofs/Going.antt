-- Columns that are filled in turn, each for as many words as any other.
use Rattle.std.proofs.Common.{◌≡◌, ℕ, ◌+◌, ◌*◌, ◌<◌, ◌≢◌, List, sym, subst, below_more, arith}
use Rattle.polys.specs.Area.{shares_of}
use Rattle.words.specs.declared.Mark.{Mark}
use Rattle.words.specs.Flow.{Flow}
use Rattle.words.specs.Spending.{Spent, Short}
use Rattle.words.proofs.Spendings.{spent_none, spent_then, spent_as, short_then, short_of, times_none, times_more, times_below}

-- P is what column k is to hold
module _ (P : ℕ → List ℕ → Type 0) (m cost : ℕ) (f₀ : Flow) where
  -- the columns before c are filled
  pub record Going (c : ℕ) (out : List ℕ) (f : Flow) : Type 0 where
    pub spent : Spent (c * cost) f₀ f
    pub done : (k : ℕ) → k < c → P k (shares_of 512 m out k)

  pub going-none : (out : List ℕ) → Going 0 out f₀
  going-none out = record { spent = spent_as (spent_none f₀) (sym (times_none cost)); done = λ k h. absurd (omega arith) }

  pub going_more : (c : ℕ) (z out out' : List ℕ) (f f' : Flow) → Spent cost f f' → P c z → shares_of 512 m out' c ≡ z → ((k : ℕ) → k ≢ c → shares_of 512 m out' k ≡ shares_of 512 m out k) → Going c out f → Going (c + 1) out' f'
  going_more c z out out' f f' s here written others g = record {
    spent = spent_as (spent_then g.spent s) (times_more c cost);
    done = below_more _ _ (λ k h. let ne : k ≢ c = omega arith in subst (P k) (sym (others k ne)) (g.done k h)) (subst (P c) (sym written) here);
  }

  pub going-short : (c : ℕ) (out : List ℕ) (e : Mark) (f f' : Flow) → c < 512 → Short cost e f f' → Going c out f → Short (512 * cost) e f₀ f'
  going-short c out e f f' h s g = short_of (short_then g.spent s) (times_below c 512 cost h)
