-- The Kogge-Stone adder on 32-bit words adds.
use Rattle.std.proofs.Common.{◌≡◌, ℕ, zero, suc, ◌+◌, ◌*◌, ◌/◌, ◌%◌, ◌^◌, ◌<◌, sym, refl, ap, ◌∙◌, subst, ap₂, add-zero, mod-lt, mod-eq_of_lt, zero-lt-suc, mul_assoc, add-mul, div-add-mod', mul_right_comm, arith, pow_pos, pow-add, shr_lt}
use native.Mathlib.Nat.{mul-mod_left, mul-add-mod_self_right}
use lib.Arith.{lt-one}
use lib.Bits.{bit_and, bit_xor, and_shr, and_mod, xor_shr, xor_mod, and_comm, xor_assoc, xor_self, xor_zero_r, and_zero_r, and_block, xor_lt, and_lt}
use Rattle.shares.proofs.Boolean.{digits3, and_assoc, and_xor}
use Rattle.linear.proofs.Sharewise.{shift_linear}
use Rattle.linear.specs.Words.{shifted}
use Rattle.gadgets.specs.Words.{generated, propagated}

-- The carries into each place, of x + y + c: what x ^ y misses of the sum.
abbrev pub into : ℕ → ℕ → ℕ → ℕ
into x y c = bit_xor x (bit_xor y (x + y + c))

-- The carries out of each place.
abbrev pub out : ℕ → ℕ → ℕ → ℕ
out x y k = bit_xor (bit_and x y) (bit_and (bit_xor x y) k)

low : (a : ℕ) → a % 2 < 2
low a = mod-lt a (zero-lt-suc 1)

half_lt : (x n : ℕ) → x < 2 ^ suc n → x / 2 < 2 ^ n
half_lt x n h = shr_lt n 1 (subst (λ (m : ℕ). x < 2 ^ m) (omega arith) h)

-- the carry into a place is the carry out of the place below, and c into the lowest
carries : (n x y c : ℕ) → x < 2 ^ n → y < 2 ^ n → c < 2 → into x y c ≡ out x y (into x y c) * 2 + c
carries zero x y c hx hy hc =
    let P : ℕ → ℕ → Type 0 = λ a b. into a b c ≡ out a b (into a b c) * 2 + c in
    subst (λ (a : ℕ). P a y) (sym (lt-one hx)) (subst (λ (b : ℕ). P 0 b) (sym (lt-one hy)) refl)
carries (suc n) x y c hx hy hc =
    let d : ℕ = (x % 2 + y % 2 + c) / 2 in
    let dl : d < 2 = omega (arith, low x, low y) in
    let half : (x + y + c) / 2 ≡ x / 2 + y / 2 + d = omega arith in
    let odd : (x + y + c) % 2 ≡ (x % 2 + y % 2 + c) % 2 = omega arith in
    let ih : into (x / 2) (y / 2) d ≡ out (x / 2) (y / 2) (into (x / 2) (y / 2) d) * 2 + d
    = carries n (x / 2) (y / 2) d (half_lt x n hx) (half_lt y n hy) dl in
    let hi : into x y c / 2 ≡ into (x / 2) (y / 2) d
    = xor_shr x (bit_xor y (x + y + c)) 1 ∙ ap (bit_xor (x / 2)) (xor_shr y (x + y + c) 1 ∙ ap (bit_xor (y / 2)) half) in
    let lo : into x y c % 2 ≡ c
    = xor_mod x (bit_xor y (x + y + c)) 1 ∙ ap (bit_xor (x % 2)) (xor_mod y (x + y + c) 1 ∙ ap (bit_xor (y % 2)) odd)
    ∙ digits3 (λ a b k. bit_xor a (bit_xor b ((a + b + k) % 2)) ≡ k) refl refl refl refl refl refl refl refl (x % 2) (y % 2) c (low x) (low y) hc in
    let K : ℕ = into x y c in
    let mhi : out x y K / 2 ≡ out (x / 2) (y / 2) (into (x / 2) (y / 2) d)
    = xor_shr (bit_and x y) (bit_and (bit_xor x y) K) 1
    ∙ ap₂ bit_xor (and_shr x y 1) (and_shr (bit_xor x y) K 1 ∙ ap₂ bit_and (xor_shr x y 1) hi) in
    let mlo : out x y K % 2 ≡ d
    = xor_mod (bit_and x y) (bit_and (bit_xor x y) K) 1
    ∙ ap₂ bit_xor (and_mod x y 1) (and_mod (bit_xor x y) K 1 ∙ ap₂ bit_and (xor_mod x y 1) lo)
    ∙ digits3 (λ a b k. bit_xor (bit_and a b) (bit_and (bit_xor a b) k) ≡ (a + b + k) / 2) refl refl refl refl refl refl refl refl (x % 2) (y % 2) c (low x) (low y) hc in
    let same : K / 2 ≡ out x y K = hi ∙ ih ∙ sym (ap₂ (λ (a b : ℕ). a * 2 + b) mhi mlo) ∙ div-add-mod' (out x y K) 2 in
    sym (div-add-mod' K 2) ∙ ap₂ (λ (a b : ℕ). a * 2 + b) same lo

-- shifts
shifted_and : (k a b : ℕ) → shifted k (bit_and a b) ≡ bit_and (shifted k a) (shifted k b)
shifted_and k a b =
    ap (λ (x : ℕ). x % 2 ^ 32) (sym (add-zero (bit_and a b * 2 ^ k)) ∙ sym (and_block k a b 0 0 (pow_pos k) (pow_pos k)) ∙ ap₂ bit_and (add-zero (a * 2 ^ k)) (add-zero (b * 2 ^ k)))
    ∙ and_mod (a * 2 ^ k) (b * 2 ^ k) 32

-- a factor may be reduced first
mod_mul_mod : (a m k : ℕ) → (a % m * k) % m ≡ (a * k) % m
mod_mul_mod a m k =
    sym (mul-add-mod_self_right (a / m * k) m (a % m * k))
    ∙ ap (λ (x : ℕ). x % m) (ap (λ (x : ℕ). x + a % m * k) (mul_right_comm (a / m) k m) ∙ sym (add-mul (a / m * m) (a % m) k) ∙ ap (λ (x : ℕ). x * k) (div-add-mod' a m))

shifted_shifted : (j k a : ℕ) → shifted j (shifted k a) ≡ shifted (k + j) a
shifted_shifted j k a = mod_mul_mod (a * 2 ^ k) (2 ^ 32) (2 ^ j) ∙ ap (λ (x : ℕ). x % 2 ^ 32) (mul_assoc a (2 ^ k) (2 ^ j) ∙ ap (λ (x : ℕ). a * x) (sym (pow-add 2 k j)))

shifted_out : (a : ℕ) → shifted 32 a ≡ 0
shifted_out a = mul-mod_left a (2 ^ 32)

-- k has the carries out of every place; g and p tell of runs of n places whether they give or hand on a carry
pub Carried : ℕ → ℕ → ℕ → ℕ → Type 0
Carried n k g p = k ≡ bit_xor g (bit_and p (shifted n k))

doubling : (n k g p : ℕ) → Carried n k g p → Carried (n + n) k (generated n g p) (propagated n p)
unfolding Carried
doubling n k g p e =
    let S : ℕ = shifted (n + n) k in
    let s : shifted n k ≡ bit_xor (shifted n g) (bit_and (shifted n p) S)
    = ap (shifted n) e ∙ (shift_linear n).both g (bit_and p (shifted n k)) ∙ ap (bit_xor (shifted n g)) (shifted_and n p (shifted n k) ∙ ap (bit_and (shifted n p)) (shifted_shifted n n k)) in
    e ∙ ap (λ (x : ℕ). bit_xor g (bit_and p x)) s
    ∙ ap (bit_xor g) (and_xor p (shifted n g) (bit_and (shifted n p) S)
    ∙ ap₂ bit_xor (and_comm p (shifted n g)) (sym (and_assoc p (shifted n p) S)))
    ∙ sym (xor_assoc g (bit_and (shifted n g) p) (bit_and (propagated n p) S))

all_carried : (k g p : ℕ) → Carried 32 k g p → k ≡ g
unfolding Carried
all_carried k g p e = e ∙ ap (λ (x : ℕ). bit_xor g (bit_and p x)) (shifted_out k) ∙ ap (bit_xor g) (and_zero_r p) ∙ xor_zero_r g

-- the carries of two words
abbrev pub carries_of : ℕ → ℕ → ℕ
carries_of x y = out x y (into x y 0) % 2 ^ 32

carries_shifted : (x y : ℕ) → x < 2 ^ 32 → y < 2 ^ 32 → shifted 1 (carries_of x y) ≡ into x y 0 % 2 ^ 32
carries_shifted x y hx hy =
    mod_mul_mod (out x y (into x y 0)) (2 ^ 32) 2
    ∙ ap (λ (a : ℕ). a % 2 ^ 32) (sym (add-zero (out x y (into x y 0) * 2)) ∙ sym (carries 32 x y 0 hx hy (zero-lt-suc 1)))

pub carried_first : (x y : ℕ) → x < 2 ^ 32 → y < 2 ^ 32 → Carried 1 (carries_of x y) (bit_and x y) (bit_xor x y)
unfolding Carried
carried_first x y hx hy =
    xor_mod (bit_and x y) (bit_and (bit_xor x y) (into x y 0)) 32
    ∙ ap₂ bit_xor (mod-eq_of_lt (and_lt 32 x y hx hy))
    (and_mod (bit_xor x y) (into x y 0) 32 ∙ ap₂ bit_and (mod-eq_of_lt (xor_lt 32 x y hx hy)) (sym (carries_shifted x y hx hy)))

sum_of : (x y : ℕ) → x < 2 ^ 32 → y < 2 ^ 32 → bit_xor (bit_xor x y) (shifted 1 (carries_of x y)) ≡ (x + y) % 2 ^ 32
sum_of x y hx hy =
    ap (bit_xor (bit_xor x y)) (carries_shifted x y hx hy)
    ∙ ap (λ (a : ℕ). bit_xor a (into x y 0 % 2 ^ 32)) (sym (mod-eq_of_lt (xor_lt 32 x y hx hy)))
    ∙ sym (xor_mod (bit_xor x y) (into x y 0) 32)
    ∙ ap (λ (a : ℕ). a % 2 ^ 32) undo
  where
    undo : bit_xor (bit_xor x y) (into x y 0) ≡ x + y
    undo =
        ap (bit_xor (bit_xor x y)) (sym (xor_assoc x y (x + y + 0)))
        ∙ sym (xor_assoc (bit_xor x y) (bit_xor x y) (x + y + 0))
        ∙ ap (λ (a : ℕ). bit_xor a (x + y + 0)) (xor_self (bit_xor x y)) ∙ add-zero (x + y)

-- one level of the adder, and what follows the last, with a name for each value
pow_twice : (j : ℕ) → 2 ^ j + 2 ^ j ≡ 2 ^ (j + 1)
pow_twice j = sym (pow-add 2 j 1 ∙ mul-two (2 ^ j))
  where
    mul-two : (n : ℕ) → n * 2 ≡ n + n
    mul-two n = omega arith

pub level : (j n k g p g' p' : ℕ) → n ≡ 2 ^ j → Carried (2 ^ j) k g p → g' ≡ generated n g p → p' ≡ propagated n p → Carried (2 ^ (j + 1)) k g' p'
level j n k g p g' p' en e eg ep =
    let hg : generated (2 ^ j) g p ≡ g' = sym (eg ∙ ap (λ (m : ℕ). generated m g p) en) in
    let hp : propagated (2 ^ j) p ≡ p' = sym (ep ∙ ap (λ (m : ℕ). propagated m p) en) in
    subst (λ (m : ℕ). Carried m k g' p') (pow_twice j)
    (subst (λ (m : ℕ). Carried (2 ^ j + 2 ^ j) k g' m) hp
    (subst (λ (m : ℕ). Carried (2 ^ j + 2 ^ j) k m (propagated (2 ^ j) p)) hg (doubling (2 ^ j) k g p e)))

pub sum_last : (x y g p s a g' q t z : ℕ) → x < 2 ^ 32 → y < 2 ^ 32 → Carried 16 (carries_of x y) g p
    → s ≡ shifted 16 g → a ≡ bit_and s p → g' ≡ bit_xor g a → q ≡ bit_xor x y → t ≡ shifted 1 g' → z ≡ bit_xor q t → z ≡ (x + y) % 2 ^ 32
sum_last x y g p s a g' q t z hx hy e es ea eg eq et ez =
    let hg : g' ≡ generated 16 g p = eg ∙ ap (bit_xor g) (ea ∙ ap (λ (m : ℕ). bit_and m p) es) in
    let done : carries_of x y ≡ generated 16 g p = all_carried (carries_of x y) (generated 16 g p) (propagated 16 p) (doubling 16 (carries_of x y) g p e) in
    ez ∙ ap₂ bit_xor eq (et ∙ ap (shifted 1) (hg ∙ sym done)) ∙ sum_of x y hx hy
