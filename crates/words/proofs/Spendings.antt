-- How the spendings of calls in a row add up.
use Rattle.std.proofs.Common.{◌≡◌, ℕ, suc, ◌+◌, ◌*◌, ◌<◌, ◌≤◌, length, get_or, drop, Ok, Err, Result, sym, refl, ap, ◌∙◌, mul-le-mul_right, add-mul, one-mul, zero-mul, arith, length-drop}
use Rattle.std.proofs.lemmas.List.{drop-drop}
use Rattle.words.specs.declared.Mark.{Mark}
use Rattle.words.specs.Flow.{Flow, Drawn}
use Rattle.words.specs.Spending.{Spent, Short, Spends}

pub spent_none : (f : Flow) → Spent 0 f f
spent_none f = record { enough = omega arith; rest = refl; mark = refl; origin = refl }

pub spent_then : {a b : ℕ} {f f₁ f₂ : Flow} → Spent a f f₁ → Spent b f₁ f₂ → Spent (a + b) f f₂
spent_then {a = a} {b = b} {f = f} s t =
    let long = ap length s.rest ∙ length-drop a f.words in
    let e = s.enough in
    let d = t.enough in
    record {
      enough = omega arith;
      rest = t.rest ∙ ap (drop b) s.rest ∙ drop-drop b a f.words;
      mark = t.mark ∙ s.mark;
      origin = t.origin ∙ s.origin;
    }

-- the same at another name of the number
pub spent_as : {a b : ℕ} {f f' : Flow} → Spent a f f' → a ≡ b → Spent b f f'
spent_as {f = f} s e = record { enough = let h = s.enough in omega arith; rest = s.rest ∙ ap (λ n. drop n f.words) e; mark = s.mark; origin = s.origin }

pub short_then : {a b : ℕ} {e : Mark} {f f₁ f₂ : Flow} → Spent a f f₁ → Short b e f₁ f₂ → Short (a + b) e f f₂
short_then {a = a} {f = f} s t =
    let long = ap length s.rest ∙ length-drop a f.words in
    let h = s.enough in
    let d = t.few in
    record { few = omega arith; rest = t.rest; why = t.why ∙ s.mark; mark = t.mark ∙ s.mark; origin = t.origin ∙ s.origin }

-- short of a is short of more
pub short_of : {a b : ℕ} {e : Mark} {f f' : Flow} → Short a e f f' → a ≤ b → Short b e f f'
short_of s h = let d = s.few in record { few = omega arith; rest = s.rest; why = s.why; mark = s.mark; origin = s.origin }

-- a draw that gives a word, and one that gives none
pub spent_one : {w : ℕ} {f f' : Flow} → Drawn (Ok w) f f' → Spent 1 f f'
spent_one {f = f} {f' = f'} d =
    let long : length f.words ≡ suc (length f'.words) = ap length d.0 in
    record { enough = omega arith; rest = sym (ap (drop 1) d.0); mark = d.1; origin = d.2 }

pub short_one : {e : Mark} {f f' : Flow} → Drawn (Err e) f f' → Short 1 e f f'
short_one {f = f} d =
    let long : length f.words ≡ 0 = ap length d.0 in
    record { few = omega arith; rest = d.1; why = d.2; mark = d.3; origin = d.4 }

-- a draw takes one word, the first
pub spends_one : {f f' : Flow} (r : Result ℕ Mark) → Drawn r f f' → Spends 1 r f f' (λ w. w ≡ get_or f.words 0 0)
spends_one (Ok w) d = record { by = (spent_one d, sym (ap (λ ws. get_or ws 0 0) d.0)) }
spends_one (Err e) d = record { by = short_one d }

-- a call whose answer is returned, after others
pub spends_then : {A : Type 0} {P : A → Type 0} {a b : ℕ} {f f₁ f₂ : Flow} (r : Result A Mark) → Spent a f f₁ → Spends b r f₁ f₂ P → Spends (a + b) r f f₂ P
spends_then (Ok x) s t = record { by = (spent_then s t.by.0, t.by.1) }
spends_then (Err e) s t = record { by = short_then s t.by }

pub spends_as : {A : Type 0} {P : A → Type 0} {a b : ℕ} {f f' : Flow} (r : Result A Mark) → Spends a r f f' P → a ≡ b → Spends b r f f' P
spends_as (Ok x) s e = record { by = (spent_as s.by.0 e, s.by.1) }
spends_as (Err x) s e = record { by = short_of s.by (omega arith) }

-- the same with less said of the answer
pub spends_so : {A : Type 0} {P Q : A → Type 0} {n : ℕ} {f f' : Flow} (r : Result A Mark) → Spends n r f f' P → ((x : A) → P x → Q x) → Spends n r f f' Q
spends_so (Ok x) s w = record { by = (s.by.0, w x s.by.1) }
spends_so (Err e) s w = record { by = s.by }

-- no call changes the origin, or adds a word
pub spends_origin : {A : Type 0} {P : A → Type 0} {n : ℕ} {f f' : Flow} (r : Result A Mark) → Spends n r f f' P → f'.origin ≡ f.origin
spends_origin (Ok x) s = s.by.0.origin
spends_origin (Err e) s = s.by.origin

pub spends_fewer : {A : Type 0} {P : A → Type 0} {n : ℕ} {f f' : Flow} (r : Result A Mark) → Spends n r f f' P → length f'.words ≤ length f.words
spends_fewer {n = n} {f = f} (Ok x) s = let e = ap length s.by.0.rest ∙ length-drop n f.words in omega arith
spends_fewer (Err e) s = let e = ap length s.by.rest in omega arith

-- i rounds of a words each
pub times_none : (a : ℕ) → 0 * a ≡ 0
times_none a = zero-mul a

pub times_more : (i a : ℕ) → i * a + a ≡ (i + 1) * a
times_more i a = sym (add-mul i 1 a ∙ ap (λ n. i * a + n) (one-mul a))

pub times_below : (i n a : ℕ) → i < n → i * a + a ≤ n * a
times_below i n a h = rw times_more (mul-le-mul_right a (let l : i + 1 ≤ n = omega arith in l))
