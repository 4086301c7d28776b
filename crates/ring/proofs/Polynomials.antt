-- Lists of coefficients: lengths, residues, sums and differences.
use Rattle.std.proofs.Common.{◌≡◌, ℕ, zero, suc, ◌+◌, ◌-◌, ◌%◌, ◌<◌, List, [], ◌∷◌, ◌++◌, length, get_or, set, replicate, sym, refl, ap, ◌∙◌, ap₂, add-zero, add_assoc, mod-lt, mod-eq_of_lt, add_comm, arith}
use native.Mathlib.Nat.{mod-add-mod, add-mod-mod}
use Rattle.ring.specs.Laws.{constant}
use Rattle.ring.specs.Ring.{negate, Residues, reduced, zip_with, plus, minus, shift_in, times_x}
use Rattle.ring.proofs.Modular.{negate_cancels, negate_restores, add_complement}

abbrev pub cons : ℕ → List ℕ → List ℕ
cons x xs = x ∷ xs

-- the tail of residues is residues
pub residues_tail : (p x : ℕ) (xs : List ℕ) → Residues p (x ∷ xs) → Residues p xs
residues_tail p x xs b k h = b (suc k) (omega arith)

pub residues_append : (p : ℕ) (xs ys : List ℕ) → Residues p xs → Residues p ys → Residues p (xs ++ ys)
residues_append p [] ys r t k l = t k l
residues_append p (x ∷ xs) ys r t zero l = r zero (omega arith)
residues_append p (x ∷ xs) ys r t (suc k) l = residues_append p xs ys (residues_tail p x xs r) t k (omega arith)

pub residues_mod : (p : ℕ) (xs : List ℕ) → Residues p xs → reduced p xs ≡ xs
residues_mod p [] b = refl
residues_mod p (x ∷ xs) b = ap₂ cons (mod-eq_of_lt (b zero (omega arith))) (residues_mod p xs (residues_tail p x xs b))

pub mod_residues : (p : ℕ) (xs : List ℕ) → 0 < p → Residues p (reduced p xs)
mod_residues p [] h k l = absurd (omega arith)
mod_residues p (x ∷ xs) h zero l = mod-lt x h
mod_residues p (x ∷ xs) h (suc k) l = mod_residues p xs h k (omega arith)

pub residues_set : (p : ℕ) (xs : List ℕ) (i v : ℕ) → Residues p xs → v < p → Residues p (set xs i v)
residues_set p [] i v h l j k = h j k
residues_set p (x ∷ xs) zero v h l zero k = l
residues_set p (x ∷ xs) zero v h l (suc j) k = h (suc j) k
residues_set p (x ∷ xs) (suc i) v h l zero k = h zero (omega arith)
residues_set p (x ∷ xs) (suc i) v h l (suc j) k = residues_set p xs i v (residues_tail p x xs h) l j (omega arith)

pub length_zip : (f : ℕ → ℕ → ℕ) (xs ys : List ℕ) → length xs ≡ length ys → length (zip_with f xs ys) ≡ length ys
length_zip f [] ys e = e
length_zip f (x ∷ xs) [] e = refl
length_zip f (x ∷ xs) (y ∷ ys) e = ap suc (length_zip f xs ys (omega arith))

pub get_d_zip : (f : ℕ → ℕ → ℕ) (xs ys : List ℕ) (j : ℕ) → j < length xs → j < length ys → get_or (zip_with f xs ys) j 0 ≡ f (get_or xs j 0) (get_or ys j 0)
get_d_zip f [] ys j h k = absurd (omega arith)
get_d_zip f (x ∷ xs) [] j h k = absurd (omega arith)
get_d_zip f (x ∷ xs) (y ∷ ys) zero h k = refl
get_d_zip f (x ∷ xs) (y ∷ ys) (suc j) h k = get_d_zip f xs ys j (omega arith) (omega arith)

zip_residues : (p : ℕ) (f : ℕ → ℕ → ℕ) (xs ys : List ℕ) → 0 < p → Residues p (zip_with (λ x y. f x y % p) xs ys)
zip_residues p f [] ys h k l = absurd (omega arith)
zip_residues p f (x ∷ xs) [] h k l = absurd (omega arith)
zip_residues p f (x ∷ xs) (y ∷ ys) h zero l = mod-lt (f x y) h
zip_residues p f (x ∷ xs) (y ∷ ys) h (suc k) l = zip_residues p f xs ys h k (omega arith)

module _ (p : ℕ) where
  pub length-plus : (xs ys : List ℕ) → length xs ≡ length ys → length (plus p xs ys) ≡ length ys
  length-plus = length_zip (λ x y. (x + y) % p)

  pub length-minus : (xs ys : List ℕ) → length xs ≡ length ys → length (minus p xs ys) ≡ length ys
  length-minus = length_zip (λ x y. (x + negate p y) % p)

  pub plus-residues : (xs ys : List ℕ) → 0 < p → Residues p (plus p xs ys)
  plus-residues = zip_residues p (λ x y. x + y)

  pub minus-residues : (xs ys : List ℕ) → 0 < p → Residues p (minus p xs ys)
  minus-residues = zip_residues p (λ x y. x + negate p y)

  -- a residue is taken away by adding what it lacks to p
  pub minus-complement : (xs ys : List ℕ) → Residues p ys → zip_with (λ x y. (x + (p - y)) % p) xs ys ≡ minus p xs ys
  minus-complement [] ys r = refl
  minus-complement (x ∷ xs) [] r = refl
  minus-complement (x ∷ xs) (y ∷ ys) r = ap₂ cons (add_complement p x y (r zero (omega arith))) (minus-complement xs ys (residues_tail p y ys r))

  pub plus_comm : (xs ys : List ℕ) → plus p xs ys ≡ plus p ys xs
  plus_comm [] [] = refl
  plus_comm [] (y ∷ ys) = refl
  plus_comm (x ∷ xs) [] = refl
  plus_comm (x ∷ xs) (y ∷ ys) = ap₂ cons (ap (λ (t : ℕ). t % p) (add_comm x y)) (plus_comm xs ys)

  pub plus_assoc : (xs ys zs : List ℕ) → plus p (plus p xs ys) zs ≡ plus p xs (plus p ys zs)
  plus_assoc [] ys zs = refl
  plus_assoc (x ∷ xs) [] zs = refl
  plus_assoc (x ∷ xs) (y ∷ ys) [] = refl
  plus_assoc (x ∷ xs) (y ∷ ys) (z ∷ zs) =
      ap₂ cons (mod-add-mod (x + y) p z ∙ ap (λ (t : ℕ). t % p) (add_assoc x y z) ∙ sym (add-mod-mod x (y + z) p)) (plus_assoc xs ys zs)

  plus-zeros : (xs : List ℕ) → plus p xs (replicate (length xs) 0) ≡ reduced p xs
  plus-zeros [] = refl
  plus-zeros (x ∷ xs) = ap₂ cons (ap (λ (t : ℕ). t % p) (add-zero x)) (plus-zeros xs)

  pub plus_zero : (xs : List ℕ) → plus p xs (constant (length xs) 0) ≡ reduced p xs
  plus_zero [] = refl
  plus_zero (x ∷ xs) = plus-zeros (x ∷ xs)

  pub minus_plus : (xs ys : List ℕ) → 0 < p → length xs ≡ length ys → plus p (minus p xs ys) ys ≡ reduced p xs
  minus_plus [] ys h e = refl
  minus_plus (x ∷ xs) [] h e = absurd (omega arith)
  minus_plus (x ∷ xs) (y ∷ ys) h e = ap₂ cons (negate_cancels p x y h) (minus_plus xs ys h (omega arith))

  pub plus-minus : (xs ys : List ℕ) → 0 < p → length xs ≡ length ys → minus p (plus p xs ys) ys ≡ reduced p xs
  plus-minus [] ys h e = refl
  plus-minus (x ∷ xs) [] h e = absurd (omega arith)
  plus-minus (x ∷ xs) (y ∷ ys) h e = ap₂ cons (negate_restores p x y h) (plus-minus xs ys h (omega arith))

  pub length-shift_in : (x : ℕ) (xs : List ℕ) → length (shift_in x xs) ≡ length xs
  length-shift_in x [] = refl
  length-shift_in x (y ∷ ys) = ap suc (length-shift_in y ys)

  pub length-times_x : (xs : List ℕ) → length (times_x p xs) ≡ length xs
  length-times_x [] = refl
  length-times_x (x ∷ xs) = ap suc (length-shift_in x xs)

  shift_in-residues : (x : ℕ) (xs : List ℕ) → Residues p (x ∷ xs) → Residues p (shift_in x xs)
  shift_in-residues x [] b j h = absurd (omega arith)
  shift_in-residues x (y ∷ ys) b zero h = b zero (omega arith)
  shift_in-residues x (y ∷ ys) b (suc j) h = shift_in-residues y ys (residues_tail p x (y ∷ ys) b) j (omega arith)

  pub times_x-residues : (xs : List ℕ) → 0 < p → Residues p xs → Residues p (times_x p xs)
  times_x-residues [] h b j l = b j l
  times_x-residues (x ∷ xs) h b zero l = mod-lt _ h
  times_x-residues (x ∷ xs) h b (suc j) l = shift_in-residues x xs b j (omega arith)
