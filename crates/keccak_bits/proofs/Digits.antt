-- The bits of a number.
use Rattle.std.proofs.Common.{◌≡◌, ℕ, zero, suc, ◌+◌, ◌-◌, ◌*◌, ◌/◌, ◌%◌, ◌^◌, ◌<◌, ◌≤◌, List, sym, refl, ap, ◌∙◌, subst, ap₂, inl, inr, mul_assoc, arith, pow-add, shr-shr, shr_lt}
use native.Mathlib.Nat.{mul-mod_left}
use lib.Bits.{bit_and, bit_or, bit_xor, and_shr, or_shr, xor_shr, and_mod, or_mod, xor_mod, or_self, or_zero_r, xor_add_and, and_mask}
use lib.Pow.{field, mod-mod-pow, shl-shr, ones_split, high, ones_lt}
use Rattle.std.proofs.lemmas.Bool.{cases_lt, cases_eq}
use Rattle.keccak.specs.Keccak.{lane, grid, rotl, not64, parity}
use Rattle.keccak_bits.specs.Bits.{bit, C}

pub bit_of_xor : (a b z : ℕ) → bit (bit_xor a b) z ≡ bit_xor (bit a z) (bit b z)
bit_of_xor a b z = ap (λ (n : ℕ). n % 2) (xor_shr a b z) ∙ xor_mod (a / 2 ^ z) (b / 2 ^ z) 1

pub bit_of_and : (a b z : ℕ) → bit (bit_and a b) z ≡ bit_and (bit a z) (bit b z)
bit_of_and a b z = ap (λ (n : ℕ). n % 2) (and_shr a b z) ∙ and_mod (a / 2 ^ z) (b / 2 ^ z) 1

bit_of_or : (a b z : ℕ) → bit (bit_or a b) z ≡ bit_or (bit a z) (bit b z)
bit_of_or a b z = ap (λ (n : ℕ). n % 2) (or_shr a b z) ∙ or_mod (a / 2 ^ z) (b / 2 ^ z) 1

-- a bit of what a shift keeps of 64 bits
bit_kept : (m z : ℕ) → z < 64 → bit (m % 2 ^ 64) z ≡ bit m z
bit_kept m z h =
    let e : 63 - z + 1 + z ≡ 64 = omega arith in
    ap (λ (k : ℕ). m % 2 ^ k / 2 ^ z % 2) (sym e) ∙ ap (λ (n : ℕ). n % 2) (field m (63 - z + 1) z) ∙ mod-mod-pow (m / 2 ^ z) (63 - z) 1

bit_below : (n k z : ℕ) → z < k → bit (n * 2 ^ k) z ≡ 0
bit_below n k z h =
    let d : ℕ = k - z - 1 in
    let e : k ≡ d + 1 + z = omega arith in
    let split : n * 2 ^ k ≡ n * 2 ^ d * 2 * 2 ^ z =
    ap (λ (j : ℕ). n * 2 ^ j) e ∙ ap (λ (v : ℕ). n * v) (pow-add 2 (d + 1) z) ∙ sym (mul_assoc n (2 ^ (d + 1)) (2 ^ z))
    ∙ ap (λ (v : ℕ). n * v * 2 ^ z) (pow-add 2 d 1) ∙ ap (λ (v : ℕ). v * 2 ^ z) (sym (mul_assoc n (2 ^ d) 2)) in
    ap (λ (v : ℕ). v / 2 ^ z % 2) split ∙ ap (λ (v : ℕ). v % 2) (shl-shr (n * 2 ^ d * 2) z) ∙ mul-mod_left (n * 2 ^ d) 2

bit_above : (n k z : ℕ) → k ≤ z → bit (n * 2 ^ k) z ≡ bit n (z - k)
bit_above n k z h =
    let e : k + (z - k) ≡ z = omega arith in
    ap (λ (j : ℕ). n * 2 ^ k / 2 ^ j % 2) (sym e) ∙ ap (λ (v : ℕ). v % 2) (sym (shr-shr (n * 2 ^ k) k (z - k))) ∙ ap (λ (v : ℕ). v / 2 ^ (z - k) % 2) (shl-shr n k)

bit_past : (n z : ℕ) → n < 2 ^ 64 → 64 ≤ z → bit n z ≡ 0
bit_past n z h l =
    let e : 64 + (z - 64) ≡ z = omega arith in
    let s : n / 2 ^ 64 ≡ 0 = omega arith in
    let q : 0 / 2 ^ (z - 64) < 1 = shr_lt {n = 0} 0 (z - 64) (subst (λ (k : ℕ). 0 < 2 ^ k) (omega arith) (lib.Pow.pow_pos (z - 64))) in
    ap (λ (j : ℕ). n / 2 ^ j % 2) (sym e) ∙ ap (λ (v : ℕ). v % 2) (sym (shr-shr n 64 (z - 64))) ∙ ap (λ (v : ℕ). v / 2 ^ (z - 64) % 2) s ∙ omega arith

pub bit_rotl : (n k z : ℕ) → n < 2 ^ 64 → k < 64 → z < 64 → bit (rotl k n) z ≡ bit n ((z + (64 - k)) % 64)
bit_rotl n k z f h l =
    let hi : ℕ = (n * 2 ^ k) % 2 ^ 64 in
    let r : ℕ = (64 - k) % 64 in
    let both : bit (rotl k n) z ≡ bit_or (bit hi z) (bit (n / 2 ^ r) z) = bit_of_or hi (n / 2 ^ r) z in
    let kept : bit hi z ≡ bit (n * 2 ^ k) z = bit_kept (n * 2 ^ k) z l in
    let low : bit (n / 2 ^ r) z ≡ bit n (r + z) = ap (λ (v : ℕ). v % 2) (shr-shr n r z) in
    elim (cases_lt z k) [
      | inl b ↦
          let none : bit hi z ≡ 0 = kept ∙ bit_below n k z b in
          let e : r + z ≡ (z + (64 - k)) % 64 = omega arith in
          both ∙ ap (λ (v : ℕ). bit_or v (bit (n / 2 ^ r) z)) none ∙ low ∙ ap (bit n) e
      | inr b ↦
          let some : bit hi z ≡ bit n (z - k) = kept ∙ bit_above n k z b in
          let e : z - k ≡ (z + (64 - k)) % 64 = omega arith in
          elim (cases_eq k 0) [
            | inl o ↦
                let e₂ : r + z ≡ z - k = omega arith in
                both ∙ ap₂ bit_or some (low ∙ ap (bit n) e₂) ∙ or_self (bit n (z - k)) ∙ ap (bit n) e
            | inr o ↦
                let far : 64 ≤ r + z = omega arith in
                both ∙ ap₂ bit_or some (low ∙ bit_past n (r + z) f far) ∙ or_zero_r (bit n (z - k)) ∙ ap (bit n) e
          ]
    ]

bit_ones : (z : ℕ) → z < 64 → bit (2 ^ 64 - 1) z ≡ 1
bit_ones z l =
    let e : 63 - z + 1 + z ≡ 64 = omega arith in
    let j : ℕ = 63 - z in
    ap (λ (k : ℕ). (2 ^ k - 1) / 2 ^ z % 2) (sym e)
    ∙ ap (λ (v : ℕ). v / 2 ^ z % 2) (ones_split (j + 1) z)
    ∙ ap (λ (v : ℕ). v % 2) (high (2 ^ (j + 1) - 1) z (ones_lt z))
    ∙ ap (λ (v : ℕ). v % 2) (ones_split j 1)
    ∙ omega arith

pub bit_not : (n z : ℕ) → n < 2 ^ 64 → z < 64 → bit (not64 n) z ≡ bit_xor (bit n z) 1
bit_not n z f l =
    let m : bit_and n (2 ^ 64 - 1) ≡ n % 2 ^ 64 = and_mask n 64 in
    let s = xor_add_and n (2 ^ 64 - 1) in
    let e : not64 n ≡ bit_xor n (2 ^ 64 - 1) = omega arith in
    ap (λ (v : ℕ). bit v z) e ∙ bit_of_xor n (2 ^ 64 - 1) z ∙ ap (bit_xor (bit n z)) (bit_ones z l)

pub below5 : (P : ℕ → Type 0) → P 0 → P 1 → P 2 → P 3 → P 4 → (x : ℕ) → x < 5 → P x
below5 P a b c d e zero h = a
below5 P a b c d e (suc zero) h = b
below5 P a b c d e (suc (suc zero)) h = c
below5 P a b c d e (suc (suc (suc zero))) h = d
below5 P a b c d e (suc (suc (suc (suc zero)))) h = e
below5 P a b c d e (suc (suc (suc (suc (suc x))))) h = let f : ⊥ = omega arith in absurd f

pub grid_at : (f : ℕ → ℕ → ℕ) (x y : ℕ) → x < 5 → y < 5 → lane (grid f) x y ≡ f x y
grid_at f x y h k =
    let P : ℕ → Type 0 = λ u. (v : ℕ) → v < 5 → lane (grid f) u v ≡ f u v in
    below5 P
    (below5 (λ v. lane (grid f) 0 v ≡ f 0 v) refl refl refl refl refl)
    (below5 (λ v. lane (grid f) 1 v ≡ f 1 v) refl refl refl refl refl)
    (below5 (λ v. lane (grid f) 2 v ≡ f 2 v) refl refl refl refl refl)
    (below5 (λ v. lane (grid f) 3 v ≡ f 3 v) refl refl refl refl refl)
    (below5 (λ v. lane (grid f) 4 v ≡ f 4 v) refl refl refl refl refl)
    x h y k

pub bit_parity : (s : List ℕ) (x z : ℕ) → bit (parity s x) z ≡ C s x z
bit_parity s x z = simp bit_of_xor
