-- A text that is read word by word, the words parted by one space.
use Rattle.std.proofs.Common.{◌≡◌, ◌∙◌, ◌⊎◌, ⊎_elim, Bool, true, false, ℕ, suc, List, [], ◌∷◌, ◌++◌, sym, refl, subst, append_assoc, arith}
use Rattle.std.specs.Str.Iter.{LacksByte}
use Rattle.script.specs.Words.{Writes}

-- a text with a space in it
pub has_space : (a r : List ℕ) → LacksByte 32 (a ++ (32 ∷ r)) → ⊥
has_space [] r no-space = no-space 0 (omega arith) refl
has_space (x ∷ a) r no-space = has_space a r (λ k h. no-space (suc k) (omega arith))

-- there is one first space
pub same_split : (a b r s : List ℕ) → LacksByte 32 a → LacksByte 32 b → a ++ (32 ∷ r) ≡ b ++ (32 ∷ s) → (a ≡ b) × (r ≡ s)
same_split [] [] r s la lb e = (refl, cc)
same_split [] (y ∷ b) r s la lb e = let h : y ≡ 32 = cc in absurd (lb 0 (omega arith) h)
same_split (x ∷ a) [] r s la lb e = let h : x ≡ 32 = cc in absurd (la 0 (omega arith) h)
same_split (x ∷ a) (y ∷ b) r s la lb e =
    let tails : a ++ (32 ∷ r) ≡ b ++ (32 ∷ s) = cc in
    let heads : x ≡ y = cc in
    let rest = same_split a b r s (λ k h. la (suc k) (omega arith)) (λ k h. lb (suc k) (omega arith)) tails in
    let first = rest.0 in
    (cc, rest.1)

-- what is left of a text, once the values of its front are read: it gives the whole, and a text that cannot be read leaves
-- what cannot be read
pub record Onward {A : Type 0} (write : List ℕ → A → Type 0) (text rest : List ℕ) (done : List A) : Type 0 where
  pub whole : (more : List A) → Writes write rest more → Writes write text (done ++ more)
  pub only : (values : List A) → Writes write text values → (more : List A) × Writes write rest more

pub onward_none : {A : Type 0} (write : List ℕ → A → Type 0) (text : List ℕ) → Onward write text text []
onward_none write text = record { whole = λ more h. h; only = λ values h. (values, h) }

-- the last word
pub onward_all : {A : Type 0} (write : List ℕ → A → Type 0) (text rest : List ℕ) (done : List A) (v : A) → Onward write text rest done → write rest v → Writes write text (done ++ (v ∷ []))
onward_all write text rest done v o h = o.whole (v ∷ []) h

writes_cons : {A : Type 0} (write : List ℕ → A → Type 0) (word rest : List ℕ) (v : A) (more : List A) → write word v → Writes write rest more → Writes write (word ++ (32 ∷ rest)) (v ∷ more)
writes_cons write word rest v [] p h = absurd h
writes_cons write word rest v (w ∷ more) p h = (word, rest, refl, p, h)

module _ {A : Type 0} (write : List ℕ → A → Type 0) (solid : (word : List ℕ) (x : A) → write word x → LacksByte 32 word) where
  -- a text with a space in it has a first word
  first_word : (word rest : List ℕ) (values : List A) → LacksByte 32 word → Writes write (word ++ (32 ∷ rest)) values → (x : A) × (more : List A) × write word x × Writes write rest more
  first_word word rest [] lacks h = absurd h
  first_word word rest (v ∷ []) lacks h = absurd (has_space word rest (solid (word ++ (32 ∷ rest)) v h))
  first_word word rest (v ∷ w ∷ more) lacks h =
      let e = same_split word h.0 rest h.1 lacks (solid h.0 v h.3) h.2 in
      let first : write word v = subst (λ (t : List ℕ). write t v) (sym e.0) h.3 in
      let others : Writes write rest (w ∷ more) = subst (λ (t : List ℕ). Writes write t (w ∷ more)) (sym e.1) h.4 in
      (v, w ∷ more, first, others)

  pub onward-more : (text rest word more : List ℕ) (done : List A) (v : A) → Onward write text rest done → rest ≡ word ++ (32 ∷ more) → LacksByte 32 word → write word v → Onward write text more (done ++ (v ∷ []))
  onward-more text rest word more done v o e lacks p = record {
    whole = λ vs h.
        let got : Writes write rest (v ∷ vs) = subst (λ (t : List ℕ). Writes write t (v ∷ vs)) (sym e) (writes_cons write word more v vs p h) in
        subst (Writes write text) (sym (append_assoc done (v ∷ []) vs)) (o.whole (v ∷ vs) got);
    only = λ values h.
        let m = o.only values h in
        let w = first_word word more m.0 lacks (subst (λ (t : List ℕ). Writes write t m.0) e m.1) in
        (w.1, w.3);
  }

  -- a word that writes nothing
  pub no_word : (text rest word more : List ℕ) (done : List A) → Onward write text rest done → rest ≡ word ++ (32 ∷ more) → LacksByte 32 word → ((x : A) → write word x → ⊥) → (values : List A) → Writes write text values → ⊥
  no_word text rest word more done o e lacks none values h =
      let m = o.only values h in
      let w = first_word word more m.0 lacks (subst (λ (t : List ℕ). Writes write t m.0) e m.1) in
      none w.0 w.2

-- a last word that writes nothing
last_word : {A : Type 0} (write : List ℕ → A → Type 0) (rest : List ℕ) (values : List A) → LacksByte 32 rest → Writes write rest values → (x : A) × write rest x
last_word write rest [] lacks h = absurd h
last_word write rest (v ∷ []) lacks h = (v, h)
last_word write rest (v ∷ w ∷ more) lacks h = absurd (has_space h.0 h.1 (subst (LacksByte 32) h.2 lacks))

pub no_last : {A : Type 0} (write : List ℕ → A → Type 0) (text rest : List ℕ) (done : List A) → Onward write text rest done → LacksByte 32 rest → ((x : A) → write rest x → ⊥) → (values : List A) → Writes write text values → ⊥
no_last write text rest done o lacks none values h =
    let m = o.only values h in
    let w = last_word write rest m.0 lacks m.1 in
    none w.0 w.1

-- the same, where the text may have ended: then the values are all
pub record Along {A : Type 0} (write : List ℕ → A → Type 0) (text : List ℕ) (more : Bool) (rest : List ℕ) (done : List A) : Type 0 where
  pub on : more ≡ true → Onward write text rest done
  pub over : more ≡ false → Writes write text done

-- a word that was cut off: the last one, or what is left begins behind the space after it
abbrev pub Cut : (rest word : List ℕ) → Bool → List ℕ → Type 0
Cut rest word more rest' = LacksByte 32 word × (((word ≡ rest) × (more ≡ false)) ⊎ ((more ≡ true) × (rest ≡ word ++ (32 ∷ rest'))))

not_both : (b : Bool) → b ≡ true → b ≡ false → ⊥
not_both b p q = let z : true ≡ false = sym p ∙ q in absurd cc

pub along_start : {A : Type 0} (write : List ℕ → A → Type 0) (text rest : List ℕ) (more : Bool) (done : List A) → more ≡ true → rest ≡ text → done ≡ [] → Along write text more rest done
along_start write text rest more done live same empty = record { on = λ m. rw (same, empty) (onward_none write text); over = λ m. absurd (not_both more live m) }

module _ {A : Type 0} (write : List ℕ → A → Type 0) (solid : (word : List ℕ) (x : A) → write word x → LacksByte 32 word) (text rest word rest' : List ℕ) (more : Bool) (done : List A) (o : Onward write text rest done) (cut : Cut rest word more rest') where
  pub along-more : (v : A) → write word v → Along write text more rest' (done ++ (v ∷ []))
  along-more v p =
      ⊎_elim (λ last. record { on = λ m. absurd (not_both more m last.1); over = λ m. onward_all write text rest done v o (subst (λ (t : List ℕ). write t v) last.0 p) })
      (λ next. record { on = λ m. onward-more write solid text rest word rest' done v o next.1 cut.0 p; over = λ m. absurd (not_both more next.0 m) })
      cut.1

  pub no_part : ((x : A) → write word x → ⊥) → (values : List A) → Writes write text values → ⊥
  no_part none values h =
      ⊎_elim (λ last. no_last write text rest done o (subst (LacksByte 32) last.0 cut.0) (λ x w. none x (subst (λ (t : List ℕ). write t x) (sym last.0) w)) values h)
      (λ next. no_word write solid text rest word rest' done o next.1 cut.0 none values h)
      cut.1
