-- A sum of residues: the sum of words or that sum less p, selected by the top bit of the second.
use Rattle.std.proofs.Common.{◌≡◌, ℕ, ◌+◌, ◌-◌, ◌*◌, ◌/◌, ◌%◌, ◌^◌, ◌<◌, ◌≤◌, ltb, sym, ap, ◌∙◌, ap₂, inl, inr, mod-eq_of_lt, arith}
use lib.Arith.{digits_mod}
use lib.Bits.{bit_and, bit_xor, and_mask, and_zero_r, xor_zero_r}
use Rattle.std.proofs.lemmas.Bool.{cases_lt, cond-true, cond-false, lt-ltb, le-ltb}
use Rattle.gadgets.specs.Words.{is_below}

-- a bit, in every place of a word
abbrev spread : ℕ → ℕ
spread b = (2 ^ 32 - b) % 2 ^ 32

-- s where b is 1, t where b is 0
abbrev choose : ℕ → ℕ → ℕ → ℕ
choose b s t = bit_xor (bit_and s (spread b)) (bit_and t (bit_xor (spread b) (2 ^ 32 - 1)))

choose_one : (b s t : ℕ) → b ≡ 1 → s < 2 ^ 32 → choose b s t ≡ s
choose_one b s t e h =
    ap (λ (x : ℕ). choose x s t) e
    ∙ ap₂ bit_xor (and_mask s 32 ∙ mod-eq_of_lt h) (and_zero_r t) ∙ xor_zero_r s

choose_zero : (b s t : ℕ) → b ≡ 0 → t < 2 ^ 32 → choose b s t ≡ t
choose_zero b s t e h =
    ap (λ (x : ℕ). choose x s t) e
    ∙ ap₂ bit_xor (and_zero_r s) (and_mask t 32 ∙ mod-eq_of_lt h)

-- s, or s less p where that is not negative
abbrev reduce : ℕ → ℕ → ℕ
reduce p s = let t = (s + (2 ^ 32 - p)) % 2 ^ 32 in choose (t / 2 ^ 31) s t

reduces : (p s : ℕ) → 0 < p → p ≤ 2 ^ 30 → s < p + p → reduce p s ≡ s % p
reduces p s z h k =
    elim (cases_lt s p) [
      | inl l ↦
          let t : (s + (2 ^ 32 - p)) % 2 ^ 32 ≡ s + (2 ^ 32 - p) = omega arith in
          let b : (s + (2 ^ 32 - p)) % 2 ^ 32 / 2 ^ 31 ≡ 1 = omega arith in
          choose_one ((s + (2 ^ 32 - p)) % 2 ^ 32 / 2 ^ 31) s ((s + (2 ^ 32 - p)) % 2 ^ 32) b (omega arith) ∙ sym (mod-eq_of_lt l)
      | inr g ↦
          let t : (s + (2 ^ 32 - p)) % 2 ^ 32 ≡ s - p = omega arith in
          let b : (s + (2 ^ 32 - p)) % 2 ^ 32 / 2 ^ 31 ≡ 0 = omega arith in
          choose_zero ((s + (2 ^ 32 - p)) % 2 ^ 32 / 2 ^ 31) s ((s + (2 ^ 32 - p)) % 2 ^ 32) b (omega arith) ∙ t
          ∙ sym (ap (λ (x : ℕ). x % p) {x = s} {y = 1 * p + (s - p)} (omega arith) ∙ digits_mod 1 (omega arith))
    ]

-- with a name for each value
pub sum_modp : (p x y s k t b n l h z : ℕ) → p < 2 ^ 24 → x < p → y < p → s ≡ (x + y) % 2 ^ 32 → k ≡ 2 ^ 32 - p → t ≡ (s + k) % 2 ^ 32
    → b ≡ (2 ^ 32 - t / 2 ^ 31) % 2 ^ 32 → l ≡ bit_and s b → n ≡ bit_xor ((2 ^ 32 - t / 2 ^ 31) % 2 ^ 32) (2 ^ 32 - 1) → h ≡ bit_and t n → z ≡ bit_xor l h → z ≡ (x + y) % p
sum_modp p x y s k t b n l h z hp hx hy es ek et eb el en eh ez =
    let s0 : s ≡ x + y = es ∙ mod-eq_of_lt (omega arith) in
    let t0 : t ≡ (x + y + (2 ^ 32 - p)) % 2 ^ 32 = et ∙ ap₂ (λ (a c : ℕ). (a + c) % 2 ^ 32) s0 ek in
    let z0 : z ≡ choose (t / 2 ^ 31) s t
    = ez ∙ ap₂ bit_xor (el ∙ ap (bit_and s) eb) (eh ∙ ap (bit_and t) en) in
    z0 ∙ ap₂ (λ (a c : ℕ). choose (c / 2 ^ 31) a c) s0 t0 ∙ reduces p (x + y) (omega arith) (omega arith) (omega arith)

-- the top bit of x - k tells whether x is below k
pub top_below : (x k : ℕ) → x < 2 ^ 31 → 0 < k → k < 2 ^ 31 → (x + (2 ^ 32 - k)) % 2 ^ 32 / 2 ^ 31 ≡ is_below x k
top_below x k hx z hk =
    elim (cases_lt x k) [
      | inl l ↦ (let e : (x + (2 ^ 32 - k)) % 2 ^ 32 / 2 ^ 31 ≡ 1 = omega arith in e ∙ sym (cond-true (ltb x k) 1 0 (lt-ltb x k l)))
      | inr g ↦ (let e : (x + (2 ^ 32 - k)) % 2 ^ 32 / 2 ^ 31 ≡ 0 = omega arith in e ∙ sym (cond-false (ltb x k) 1 0 (le-ltb x k g)))
    ]
