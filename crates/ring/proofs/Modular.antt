-- The laws of residues, with no bound on the numbers where none is needed.
use Rattle.std.proofs.Common.{◌≡◌, ℕ, zero, suc, ◌+◌, ◌-◌, ◌*◌, ◌/◌, ◌%◌, ◌<◌, ◌≤◌, cond, leb, sym, ap, ◌∙◌, add-zero, add_assoc, mod-lt, mod-eq_of_lt, mul_assoc, suc-mul, mul_comm, add-mul, mul-zero, mul-suc, mul-add, mul_left_comm, arith}
use native.Mathlib.Nat.{mod-eq-sub-mod, add-mod, mod-add-mod, add-mod-mod, mod-add-div, add-mul-mod_self_left, zero-mod, mod_self, sub-zero}
use Rattle.std.proofs.lemmas.Bool.{cond_both, leb-true, leb-false}
use Rattle.ring.specs.Ring.{negate}

-- (q + 1) − r is q times r, modulo q + 1
pub negate_residue : (q r : ℕ) → r ≤ q → (suc q - r) % suc q ≡ (q * r) % suc q
negate_residue q zero h = ap (λ (t : ℕ). t % suc q) (sub-zero (suc q)) ∙ mod_self (suc q) ∙ sym (zero-mod (suc q)) ∙ ap (λ (t : ℕ). t % suc q) (sym (mul-zero q))
negate_residue q (suc s) h =
    let e : (suc q - suc s) + suc q * s ≡ q * suc s = omega (arith, suc-mul q s, mul-suc q s) in
    sym (add-mul-mod_self_left (suc q - suc s) (suc q) s) ∙ ap (λ (t : ℕ). t % suc q) e

module _ (p : ℕ) where
  pub left-mod : (a b : ℕ) → (a % p * b) % p ≡ (a * b) % p
  left-mod a b =
      sym (add-mul-mod_self_left (a % p * b) p (a / p * b))
      ∙ ap (λ (t : ℕ). t % p) (ap (λ (t : ℕ). a % p * b + t) (sym (mul_assoc p (a / p) b)) ∙ sym (add-mul (a % p) (p * (a / p)) b) ∙ ap (λ (t : ℕ). t * b) (mod-add-div a p))

  pub right-mod : (a b : ℕ) → (a * (b % p)) % p ≡ (a * b) % p
  right-mod a b = ap (λ (t : ℕ). t % p) (mul_comm a (b % p)) ∙ left-mod b a ∙ ap (λ (t : ℕ). t % p) (mul_comm b a)

  pub interchange : (a b c d : ℕ) → ((a + b) % p + (c + d) % p) % p ≡ ((a + c) % p + (b + d) % p) % p
  interchange a b c d =
      let e : (a + b) + (c + d) ≡ (a + c) + (b + d) = omega arith in
      sym (add-mod (a + b) (c + d) p) ∙ ap (λ (t : ℕ). t % p) e ∙ add-mod (a + c) (b + d) p

  pub times-plus : (k a b : ℕ) → (k * ((a + b) % p)) % p ≡ ((k * a) % p + (k * b) % p) % p
  times-plus k a b = right-mod k (a + b) ∙ ap (λ (t : ℕ). t % p) (mul-add k a b) ∙ add-mod (k * a) (k * b) p

  pub plus_times : (a b k : ℕ) → ((a + b) % p * k) % p ≡ ((a * k) % p + (b * k) % p) % p
  plus_times a b k = left-mod (a + b) k ∙ ap (λ (t : ℕ). t % p) (add-mul a b k) ∙ add-mod (a * k) (b * k) p

  pub times-swap : (a b c : ℕ) → (a * ((b * c) % p)) % p ≡ (b * ((a * c) % p)) % p
  times-swap a b c = right-mod a (b * c) ∙ ap (λ (t : ℕ). t % p) (mul_left_comm a b c) ∙ sym (right-mod b (a * c))

-- −x is (p − 1) times x
pub negate_is : (p x : ℕ) → negate p x ≡ ((p - 1) * x) % p
negate_is zero x =
    let e : (0 - x % 0) ≡ 0 = omega arith in
    let f : 0 * x ≡ 0 = omega arith in
    ap (λ (t : ℕ). t % 0) (e ∙ sym f)
negate_is (suc q) x =
    let lt : x % suc q < suc q = mod-lt x (omega arith) in
    let e : suc q - 1 ≡ q = omega arith in
    negate_residue q (x % suc q) (omega arith) ∙ right-mod (suc q) q x ∙ ap (λ (t : ℕ). (t * x) % suc q) (sym e)

negate_plus_zero : (p y : ℕ) → 0 < p → (negate p y + y) % p ≡ 0
negate_plus_zero p y h =
    let l : y % p < p = mod-lt y h in
    let e : (p - y % p) + y % p ≡ p = omega arith in
    mod-add-mod (p - y % p) p y ∙ sym (add-mod-mod (p - y % p) y p) ∙ ap (λ (t : ℕ). t % p) e ∙ mod_self p

-- (x − y) + y is x
pub negate_cancels : (p x y : ℕ) → 0 < p → ((x + negate p y) % p + y) % p ≡ x % p
negate_cancels p x y h =
    mod-add-mod (x + negate p y) p y
    ∙ ap (λ (t : ℕ). t % p) (add_assoc x (negate p y) y)
    ∙ sym (add-mod-mod x (negate p y + y) p)
    ∙ ap (λ (t : ℕ). (x + t) % p) (negate_plus_zero p y h)
    ∙ ap (λ (t : ℕ). t % p) (add-zero x)

-- (x + y) − y is x
pub negate_restores : (p x y : ℕ) → 0 < p → ((x + y) % p + negate p y) % p ≡ x % p
negate_restores p x y h =
    let e : (x + y) + negate p y ≡ (x + negate p y) + y = omega arith in
    mod-add-mod (x + y) p (negate p y) ∙ ap (λ (t : ℕ). t % p) e ∙ sym (mod-add-mod (x + negate p y) p y) ∙ negate_cancels p x y h

-- a sum below 2p takes one subtraction at most
pub reduce_once : (p s : ℕ) → s < p + p → cond (leb p s) (s - p) s ≡ s % p
reduce_once p s h =
    cond_both (leb p s) (s - p) s (λ (r : ℕ). r ≡ s % p)
    (λ e. sym (mod-eq-sub-mod (leb-true p s e) ∙ mod-eq_of_lt (omega (arith, leb-true p s e))))
    (λ e. sym (mod-eq_of_lt (leb-false p s e)))

-- −x of a residue that is not 0
pub negate_some : (p x : ℕ) → 0 < x → x < p → negate p x ≡ p - x
negate_some p x h l = ap (λ (t : ℕ). (p - t) % p) (mod-eq_of_lt l) ∙ mod-eq_of_lt (omega arith)

-- x − y, with y taken from p
pub add_complement : (p x y : ℕ) → y < p → (x + (p - y)) % p ≡ (x + negate p y) % p
add_complement p x y h = ap (λ (t : ℕ). (x + (p - t)) % p) (sym (mod-eq_of_lt h)) ∙ sym (add-mod-mod x (p - y % p) p)
