-- A load part of the way: the coefficients before c are in the key area.
use Rattle.std.proofs.Common.{◌≡◌, ℕ, ◌+◌, ◌-◌, ◌*◌, ◌<◌, ◌≢◌, List, length, get_or, drop, ℤ, Ok, Err, Result, sym, ap, ◌∙◌, subst, subst₂, ⊎_elim, arith}
use Rattle.std.proofs.lemmas.List.{length-map}
use Rattle.std.proofs.lemmas.Bool.{cases_eq}
use Rattle.params.specs.Params.{Params}
use Rattle.ring.specs.Ring.{residue}
use Rattle.shares.specs.Rule.{Rule}
use Rattle.shares.specs.Groups.{residue_rule}
use Rattle.words.specs.declared.Mark.{Mark}
use Rattle.words.specs.Flow.{Flow}
use Rattle.words.specs.Spending.{Spent, Short, Spends}
use Rattle.words.proofs.Spendings.{spent_none, spent_then, spent_as, short_then, short_of, times_none, times_more, times_below}
use Rattle.keys.specs.Load.{split_cost, load_cost, Splits, Holds, residues_of}
use Rattle.polys.specs.Area.{shares_of}
use Rattle.polys.proofs.Places.{area-within, recombined-are}

-- what a call on coefficient c does
pub record Step {A : Type 0} (p n m c v : ℕ) (r : Result A Mark) (key key' : List ℕ) (f f' : Flow) : Type 0 where
  pub split : Spends ((residue_rule p).cost * (m - 1)) r f f' (λ _. Splits (residue_rule p) m f.words v (shares_of n m key' c))
  pub others : (k : ℕ) → k ≢ c → shares_of n m key' k ≡ shares_of n m key k

module _ (s : Params) (m : ℕ) (secret : List ℤ) (f₀ : Flow) where
  abbrev u : Rule
  u = residue_rule s.p

  abbrev value : ℕ → ℕ
  value k = get_or (residues_of s secret) k 0

  pub record Going (c : ℕ) (key : List ℕ) (f : Flow) : Type 0 where
    pub spent : Spent (c * split_cost s m) f₀ f
    pub done : (k : ℕ) → k < c → k < 2 * s.n → Splits u m (drop (k * split_cost s m) f₀.words) (value k) (shares_of s.n m key k)

  pub going-none : (key : List ℕ) → Going 0 key f₀
  going-none key = record {
    spent = spent_as (spent_none f₀) (sym (times_none (split_cost s m)));
    done = λ k h l. absurd (omega arith);
  }

  pub going_more : {A : Type 0} {x : A} {c v : ℕ} {key key' : List ℕ} {f f' : Flow} → v ≡ value c → Step s.p s.n m c v (Ok x) key key' f f' → Going c key f → Going (c + 1) key' f'
  unfolding split_cost
  going_more {c = c} {v = v} {key = key} {key' = key'} {f = f} e t g =
      let here : Splits u m (drop (c * split_cost s m) f₀.words) (value c) (shares_of s.n m key' c) =
      subst₂ (λ (ws : List ℕ) (w : ℕ). Splits u m ws w (shares_of s.n m key' c)) g.spent.rest e t.split.by.1 in
      record {
        spent = spent_as (spent_then g.spent t.split.by.0) (times_more c (split_cost s m));
        done = λ k h l.
            ⊎_elim
            (λ (i : k ≡ c). subst (λ (j : ℕ). Splits u m (drop (j * split_cost s m) f₀.words) (value j) (shares_of s.n m key' j)) (sym i) here)
            (λ (ne : k ≢ c). subst (Splits u m (drop (k * split_cost s m) f₀.words) (value k)) (sym (t.others k ne)) (g.done k (omega arith) l))
            (cases_eq k c);
      }

  pub going-all : {c : ℕ} {key : List ℕ} {f : Flow} → 0 < s.n → length secret ≡ 2 * s.n → length key ≡ 2 * m * s.n → c ≡ 2 * s.n → Going c key f → Spent (load_cost s m) f₀ f × Holds s m secret f₀.words key
  going-all {c = c} {key = key} some long room e g =
      let each : (k : ℕ) → k < 2 * s.n → Splits u m (drop (k * split_cost s m) f₀.words) (value k) (shares_of s.n m key k) = λ k l. g.done k (omega arith) l in (
        spent_as g.spent (ap (λ (k : ℕ). k * split_cost s m) e),
        record {
          shares = λ k l. (each k l).is;
          residues = area-within s.n m 2 s.p key some room (λ k l. (each k l).within);
          value = sym (recombined-are s m key (residues_of s secret) (length-map secret (residue s.p) ∙ long) (λ k l. sym (each k l).value));
        },
      )

  pub going-short : {A : Type 0} {c v : ℕ} {e : Mark} {key key' : List ℕ} {f f' : Flow} → c < 2 * s.n → Step {A = A} s.p s.n m c v (Err e) key key' f f' → Going c key f → Short (load_cost s m) e f₀ f'
  unfolding split_cost
  going-short {c = c} h t g = short_of (short_then g.spent t.split.by) (times_below c (2 * s.n) (split_cost s m) h)
