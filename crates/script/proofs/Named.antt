-- What stands behind a name.
use Rattle.std.proofs.Common.{inl, inr, ◌≡◌, ℕ, List, ◌∷◌, ◌++◌, Ok, Err, Some, None, Option, Result, Bor, length, sym, ap, subst, refl, arith, Vec, vec_items}
use Rattle.std.specs.declared.alloc.Global.{Global}
use Rattle.std.proofs.lemmas.List.{append_cancel_left, length-append}
use Rattle.std.specs.Option.{ok_or}
use Rattle.script.specs.Answers.{Judges, NoneIs, Reads}
use Rattle.script.specs.Lines.{Listed, Valued, spaced}
use Rattle.script.specs.Words.{Writes}
use Rattle.script.specs.declared.unread.Unread.{Unread}
use Rattle.script.specs.declared.unread.Unread.TheVariants.{Memory, NotUnderstood}

-- a name alone has nothing behind it
pub not_alone : (name text : List ℕ) → name ≡ name ++ (32 ∷ text) → ⊥
not_alone name text e = let l = length-append name (32 ∷ text) in let m = ap length e in omega arith

pub behind : (name text other : List ℕ) → name ++ (32 ∷ text) ≡ name ++ (32 ∷ other) → text ≡ other
behind name text other e = let t : 32 ∷ text ≡ 32 ∷ other = append_cancel_left name (32 ∷ text) (32 ∷ other) e in cc

-- nothing behind a name, where something is wanted
pub none_there : {A : Type 0} (rest : Option A) (e : Unread) → Err e ≡ ok_or rest NotUnderstood → (rest ≡ None) × (e ≡ NotUnderstood)
none_there None e h = (refl, cc)
none_there (Some x) e h = absurd cc

module _ {A : Type 0} (write : List ℕ → A → Type 0) where
  pub no_value_alone : (name : List ℕ) → NoneIs (Valued write name name)
  no_value_alone name x h = not_alone name h.0 h.1

  pub value : (name text : List ℕ) (x : A) → Valued write name (name ++ (32 ∷ text)) x → write text x
  value name text x h = subst (λ (t : List ℕ). write t x) (sym (behind name text h.0 h.1)) h.2

  pub values : (name text : List ℕ) (xs : List A) → Listed write name (name ++ (32 ∷ text)) xs → Writes write text xs
  values name text xs (inl h) = absurd (not_alone name text (sym h.0))
  values name text xs (inr h) = subst (λ (t : List ℕ). Writes write t xs) (sym (behind name text h.0 h.1)) h.2

  pub judges_value : (rest : Option (Bor (List ℕ))) (text : Bor (List ℕ)) (r : Result A Unread) → rest ≡ Some text → Judges (write text.now) (NoneIs (write text.now)) r
      → Judges (λ x. (name : List ℕ) → Valued write name (spaced name rest) x) ((name : List ℕ) → NoneIs (Valued write name (spaced name rest))) r
  judges_value rest text (Ok x) e h = λ name. subst (λ (o : Option (Bor (List ℕ))). Valued write name (spaced name o) x) (sym e) (text.now, refl, h)
  judges_value rest text (Err NotUnderstood) e h = λ name. subst (λ (o : Option (Bor (List ℕ))). NoneIs (Valued write name (spaced name o))) (sym e) (λ x v. h x (value name text.now x v))
  judges_value rest text (Err Memory) e h = h

  pub reads_values : (rest : Option (Bor (List ℕ))) (text : Bor (List ℕ)) (r : Result (Vec A Global) Unread) → rest ≡ Some text → Reads (λ v. Writes write text.now (vec_items v)) (NoneIs (Writes write text.now)) r
      → Reads (λ v. (name : List ℕ) → Listed write name (spaced name rest) (vec_items v)) ((name : List ℕ) → NoneIs (Listed write name (spaced name rest))) r
  reads_values rest text (Ok v) e h = λ name. subst (λ (o : Option (Bor (List ℕ))). Listed write name (spaced name o) (vec_items v)) (sym e) (inr (text.now, refl, h))
  reads_values rest text (Err NotUnderstood) e h = λ name. subst (λ (o : Option (Bor (List ℕ))). NoneIs (Listed write name (spaced name o))) (sym e) (λ xs v. h xs (values name text.now xs v))
  reads_values rest text (Err Memory) e h = h
