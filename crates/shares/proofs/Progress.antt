-- A refresh part of the way: what is still to do comes to the whole.
use Rattle.std.proofs.Common.{◌≡◌, ℕ, suc, ◌+◌, ◌-◌, ◌*◌, ◌<◌, ◌≤◌, leb, List, [], ◌∷◌, ◌++◌, length, drop, Ok, Err, sym, refl, ap, ◌∙◌, mul_comm, add-mul, one-mul, arith}
use Rattle.std.proofs.lemmas.Bool.{cond-true, cond-false, le-leb, lt-leb}
use Rattle.words.specs.declared.Mark.{Mark}
use Rattle.words.specs.Flow.{Flow}
use Rattle.words.specs.Spending.{Spent}
use Rattle.words.proofs.Spendings.{spent_none, spent_then, spent_as, short_then, short_of, times_none, times_below}
use Rattle.shares.specs.Rule.{Rule, Within, recombine}
use Rattle.shares.specs.Refresh.{pairs, row, rows, masked, refreshed, Pair, Refreshed}
use Rattle.shares.proofs.Pairs.{length_rows}

-- the first pair of what is left of a row
pub row_more : (i j m : ℕ) → j < m → row i j (m - j) ≡ (i, j) ∷ row i (j + 1) (m - (j + 1))
row_more i j m h =
    let e : m - j ≡ suc (m - (j + 1)) = omega arith in
    let s : suc j ≡ j + 1 = omega arith in
    ap (row i j) e ∙ ap (λ k. (i, j) ∷ row i k (m - (j + 1))) s

pub rows_more : (i m : ℕ) → i < m → rows i (m - i) ≡ row i (i + 1) (m - (i + 1)) ++ rows (i + 1) (m - (i + 1))
rows_more i m h =
    let e : m - i ≡ suc (m - (i + 1)) = omega arith in
    let s : suc i ≡ i + 1 = omega arith in
    ap (rows i) e ∙ ap (λ k. row i k (m - (i + 1)) ++ rows k (m - (i + 1))) s

pub row_none : (i j m : ℕ) → m ≤ j → row i j (m - j) ≡ []
row_none i j m h = let e : m - j ≡ 0 = omega arith in ap (row i j) e

pub rows_none : (i m : ℕ) → m ≤ i → rows i (m - i) ≡ []
rows_none i m h = let e : m - i ≡ 0 = omega arith in ap (rows i) e

-- the pairs ps at the shares xs and the source f are left of ps₀ at xs₀ and f₀
pub record Goes (u : Rule) (ps : List (ℕ × ℕ)) (xs : List ℕ) (f : Flow) (ps₀ : List (ℕ × ℕ)) (xs₀ : List ℕ) (f₀ : Flow) : Type 0 where
  pub on : refreshed u ps f.words xs ≡ refreshed u ps₀ f₀.words xs₀
  pub done : ℕ
  pub all : done + length ps ≡ length ps₀
  pub spent : Spent (done * u.cost) f₀ f
  pub long : length xs ≡ length xs₀
  pub within : Within u xs
  pub same : recombine u xs ≡ recombine u xs₀

pub goes_start : (u : Rule) {ps ps₀ : List (ℕ × ℕ)} {xs : List ℕ} {f : Flow} → ps ≡ ps₀ → Within u xs → Goes u ps xs f ps₀ xs f
goes_start u {xs = xs} {f = f} e w = record {
  on = ap (λ p. refreshed u p f.words xs) e;
  done = 0;
  all = let l = ap length e in omega arith;
  spent = spent_as (spent_none f) (sym (times_none u.cost));
  long = refl;
  within = w;
  same = refl;
}

pub goes_then : {u : Rule} {ps ps₁ ps₁' ps₂ : List (ℕ × ℕ)} {xs xs₁ xs₂ : List ℕ} {f f₁ f₂ : Flow} →
    Goes u ps xs f ps₁ xs₁ f₁ → ps₁ ≡ ps₁' → Goes u ps₁' xs₁ f₁ ps₂ xs₂ f₂ → Goes u ps xs f ps₂ xs₂ f₂
goes_then {u = u} {xs₁ = xs₁} {f₁ = f₁} s e t =
    let l = ap length e in
    let a = s.all in
    let b = t.all in
    record {
      on = s.on ∙ ap (λ p. refreshed u p f₁.words xs₁) e ∙ t.on;
      done = t.done + s.done;
      all = omega arith;
      spent = spent_as (spent_then t.spent s.spent) (sym (add-mul t.done s.done u.cost));
      long = s.long ∙ t.long;
      within = s.within;
      same = s.same ∙ t.same;
    }

pub goes_pair : {X : Type 0} {u : Rule} {i j : ℕ} {x : X} {ps : List (ℕ × ℕ)} {xs xs' : List ℕ} {f f' : Flow} →
    Pair u i j (Ok x) xs xs' f f' → (ps₁ : List (ℕ × ℕ)) → ps₁ ≡ (i, j) ∷ ps → Goes u ps xs' f' ps₁ xs f
goes_pair {u = u} {i = i} {j = j} {ps = ps} {xs = xs} {f = f} {f' = f'} p ps₁ e =
    let s = p.spends.by.0 in
    let l = ap length e in
    let ys = masked u i j (u.mask f.words) xs in
    record {
      on =
          ap (refreshed u ps f'.words) p.shares
          ∙ ap (λ w. refreshed u ps w ys) s.rest
          ∙ sym (cond-true (leb u.cost (length f.words)) (refreshed u ps (drop u.cost f.words) ys) xs (le-leb u.cost (length f.words) s.enough))
          ∙ ap (λ q. refreshed u q f.words xs) (sym e);
      done = 1;
      all = omega arith;
      spent = spent_as s (sym (one-mul u.cost));
      long = p.long;
      within = p.within;
      same = p.same;
    }

pub goes_done : {X : Type 0} {x : X} {u : Rule} {m : ℕ} {ps : List (ℕ × ℕ)} {xs xs₀ : List ℕ} {f f₀ : Flow} →
    Goes u ps xs f (rows 0 m) xs₀ f₀ → ps ≡ [] → Refreshed u m (Ok x) xs₀ xs f₀ f
goes_done {u = u} {m = m} {xs = xs} {f = f} s e =
    let l = ap length e in
    let a = s.all in
    let n : s.done ≡ pairs m = let h = length_rows 0 m in omega arith in
    record {
      spends = record { by = (spent_as s.spent (ap (λ k. k * u.cost) n ∙ mul_comm (pairs m) u.cost), tt) };
      shares = ap (λ q. refreshed u q f.words xs) (sym e) ∙ s.on;
      long = s.long;
      within = s.within;
      same = s.same;
    }

pub goes_short : {X Y : Type 0} {u : Rule} {m i j : ℕ} {e : Mark} {ps qs : List (ℕ × ℕ)} {xs xs' xs₀ : List ℕ} {f f' f₀ : Flow} →
    Goes u ps xs f (rows 0 m) xs₀ f₀ → ps ≡ (i, j) ∷ qs → Pair {A = X} u i j (Err e) xs xs' f f' → Refreshed {A = Y} u m (Err e) xs₀ xs' f₀ f'
goes_short {u = u} {m = m} {i = i} {j = j} {qs = qs} {xs = xs} {f = f} s e p =
    let b = p.spends.by in
    let l = ap length e in
    let a = s.all in
    let less : s.done < pairs m = let h = length_rows 0 m in omega arith in
    let c = times_below s.done (pairs m) u.cost less in
    let d = mul_comm (pairs m) u.cost in
    record {
      spends = record { by = short_of (short_then s.spent b) (omega arith) };
      shares =
          p.shares
          ∙ sym (cond-false (leb u.cost (length f.words)) (refreshed u qs (drop u.cost f.words) (masked u i j (u.mask f.words) xs)) xs (lt-leb u.cost (length f.words) b.few))
          ∙ ap (λ q. refreshed u q f.words xs) (sym e)
          ∙ s.on;
      long = p.long ∙ s.long;
      within = p.within;
      same = p.same ∙ s.same;
    }
