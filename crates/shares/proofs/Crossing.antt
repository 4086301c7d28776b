-- SecAnd part of the way: what is still to do comes to the whole.
use Rattle.std.proofs.Common.{◌≡◌, ℕ, ◌+◌, List, ◌∷◌, length, Ok, Err, sym, refl, ap, ◌∙◌, arith}
use Rattle.words.specs.declared.Mark.{Mark}
use Rattle.words.specs.Flow.{Flow, Drawn}
use Rattle.words.specs.Spending.{Spent, Short}
use Rattle.words.proofs.Spendings.{spent_none, spent_then, spent_one, short_one, short_then, short_of}
use Rattle.shares.specs.Conjoined.{crossed, crossed_all}
use Rattle.shares.proofs.Products.{length_crossed}

-- the pairs ps at the shares os and the source f are left of ps₀ at os₀ and f₀
pub record Crosses (xs ys : List ℕ) (ps : List (ℕ × ℕ)) (os : List ℕ) (f : Flow) (ps₀ : List (ℕ × ℕ)) (os₀ : List ℕ) (f₀ : Flow) : Type 0 where
  pub on : crossed_all xs ys ps f.words os ≡ crossed_all xs ys ps₀ f₀.words os₀
  pub done : ℕ
  pub all : done + length ps ≡ length ps₀
  pub spent : Spent done f₀ f
  pub long : length os ≡ length os₀

pub crosses_start : {xs ys os : List ℕ} {ps ps₀ : List (ℕ × ℕ)} {f : Flow} → ps ≡ ps₀ → Crosses xs ys ps os f ps₀ os f
crosses_start {xs = xs} {ys = ys} {os = os} {f = f} e = record {
  on = ap (λ p. crossed_all xs ys p f.words os) e;
  done = 0;
  all = let l = ap length e in omega arith;
  spent = spent_none f;
  long = refl;
}

pub crosses_then : {xs ys os os₁ os₂ : List ℕ} {ps ps₁ ps₁' ps₂ : List (ℕ × ℕ)} {f f₁ f₂ : Flow}
    → Crosses xs ys ps os f ps₁ os₁ f₁ → ps₁ ≡ ps₁' → Crosses xs ys ps₁' os₁ f₁ ps₂ os₂ f₂ → Crosses xs ys ps os f ps₂ os₂ f₂
crosses_then {xs = xs} {ys = ys} {os₁ = os₁} {f₁ = f₁} s e t =
    let l = ap length e in
    let a = s.all in
    let b = t.all in
    record {
      on = s.on ∙ ap (λ p. crossed_all xs ys p f₁.words os₁) e ∙ t.on;
      done = t.done + s.done;
      all = omega arith;
      spent = spent_then t.spent s.spent;
      long = s.long ∙ t.long;
    }

pub crosses_pair : {xs ys os : List ℕ} {i j r : ℕ} {ps : List (ℕ × ℕ)} {f f' : Flow}
    → Drawn (Ok r) f f' → (ps₁ : List (ℕ × ℕ)) → ps₁ ≡ (i, j) ∷ ps → Crosses xs ys ps (crossed xs ys i j r os) f' ps₁ os f
crosses_pair {xs = xs} {ys = ys} {os = os} {i = i} {j = j} {r = r} {ps = ps} {f = f} d ps₁ e =
    let l = ap length e in
    record {
      on = sym (ap (λ p. crossed_all xs ys p f.words os) e ∙ ap (λ ws. crossed_all xs ys ((i, j) ∷ ps) ws os) d.0);
      done = 1;
      all = omega arith;
      spent = spent_one d;
      long = length_crossed xs ys os i j r;
    }

pub crosses_short : {xs ys os os₀ : List ℕ} {i j : ℕ} {e : Mark} {ps qs ps₀ : List (ℕ × ℕ)} {f f' f₀ : Flow}
    → Crosses xs ys ps os f ps₀ os₀ f₀ → ps ≡ (i, j) ∷ qs → Drawn (Err e) f f' → Short (length ps₀) e f₀ f'
crosses_short s e d =
    let l = ap length e in
    let a = s.all in
    short_of (short_then s.spent (short_one d)) (omega arith)
