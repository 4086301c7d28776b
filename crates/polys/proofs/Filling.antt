-- A list that calls fill in turn, each of which takes as many words as any other.
use Rattle.std.proofs.Common.{◌≡◌, ℕ, ◌+◌, ◌*◌, ◌<◌, ◌≢◌, List, map, length, get_or, set, sym, ap, ◌∙◌, arith, below_more}
use Rattle.std.specs.List.{range_with_len}
use Rattle.std.proofs.lemmas.List.FromFn.{fill_by_all}
use Rattle.std.proofs.lemmas.List.{get_or-set_same, get_or-set_other}
use Rattle.words.specs.declared.Mark.{Mark}
use Rattle.words.specs.Flow.{Flow}
use Rattle.words.specs.Spending.{Spent, Short}
use Rattle.words.proofs.Spendings.{spent_none, spent_then, spent_as, short_then, short_of, times_none, times_more, times_below}

-- place k is to hold v k, and each place costs so many words
module _ {X : Type 0} (d : X) (v : ℕ → X) (cost : ℕ) (f₀ : Flow) where
  -- the places below c are filled
  pub record Filling (c : ℕ) (out : List X) (f : Flow) : Type 0 where
    pub spent : Spent (c * cost) f₀ f
    pub done : (k : ℕ) → k < c → get_or out k d ≡ v k

  pub filling-none : (out : List X) → Filling 0 out f₀
  filling-none out = record { spent = spent_as (spent_none f₀) (sym (times_none cost)); done = λ k h. absurd (omega arith) }

  pub filling-more : (c : ℕ) (out : List X) (x : X) (f f' : Flow) → c < length out → Spent cost f f' → x ≡ v c → Filling c out f → Filling (c + 1) (set out c x) f'
  filling-more c out x f f' h s e g = record {
    spent = spent_as (spent_then g.spent s) (times_more c cost);
    done = below_more _ _ (λ k l. let ne : k ≢ c = omega arith in get_or-set_other out c k x d ne ∙ g.done k l) (get_or-set_same out c x d h ∙ e);
  }

  pub filling-all : (count c : ℕ) (out : List X) (f : Flow) → c ≡ count → length out ≡ count → Filling c out f → Spent (count * cost) f₀ f × (out ≡ map v (range_with_len 0 count))
  filling-all count c out f e long g = (
    spent_as g.spent (ap (λ (k : ℕ). k * cost) e),
    fill_by_all v out count d long (λ k h. g.done k (omega arith)),
  )

  pub filling-short : (count c : ℕ) (out : List X) (m : Mark) (f f' : Flow) → c < count → Short cost m f f' → Filling c out f → Short (count * cost) m f₀ f'
  filling-short count c out m f f' h s g = short_of (short_then g.spent s) (times_below c count cost h)
