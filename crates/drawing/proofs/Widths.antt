-- The least number of bits.
use Rattle.std.proofs.Common.{◌≡◌, ℕ, zero, suc, ◌+◌, ◌-◌, ◌^◌, ◌<◌, ◌≤◌, ltb, refl, sym, ◌∙◌, subst, inl, inr, arith, pow_mono}
use Rattle.std.proofs.lemmas.Bool.{cases_lt, cond-true, cond-false, lt-ltb, le-ltb}
use Rattle.std.proofs.lemmas.Nat.{leading_top}
use lib.Count.{count_leading_zeros}
use Rattle.plain.specs.Nonces.{LeastBits, bits_from}

pub bits_here : (k w x : ℕ) → x < 2 ^ w → bits_from (suc k) w x ≡ w
unfolding bits_from
bits_here k w x h = cond-true (ltb x (2 ^ w)) w (bits_from k (w + 1) x) (lt-ltb x (2 ^ w) h)

pub bits_next : (k w x : ℕ) → 2 ^ w ≤ x → bits_from (suc k) w x ≡ bits_from k (w + 1) x
unfolding bits_from
bits_next k w x h = cond-false (ltb x (2 ^ w)) w (bits_from k (w + 1) x) (le-ltb x (2 ^ w) h)

pub bits_none : (w x : ℕ) → bits_from 0 w x ≡ w
unfolding bits_from
bits_none w x = refl

-- the width at which a number fits and at no less
pub bits_is : (k w x r : ℕ) → w ≤ r → r ≤ w + k → x < 2 ^ r → ((v : ℕ) → v < r → 2 ^ v ≤ x) → bits_from k w x ≡ r
bits_is zero w x r low high fits below = bits_none w x ∙ (let e : w ≡ r = omega arith in e)
bits_is (suc k) w x r low high fits below = elim (cases_lt w r) [
  | inl h ↦ bits_next k w x (below w h) ∙ bits_is k (w + 1) x r (omega arith) (omega arith) fits below
  | inr h ↦ (let e : r ≡ w = omega arith in bits_here k w x (subst (λ (v : ℕ). x < 2 ^ v) e fits) ∙ sym e)
]

pub least_of : (x w : ℕ) → x < 2 ^ w → ((v : ℕ) → v < w → 2 ^ v ≤ x) → LeastBits x w
least_of x w h below = record {
  above = h;
  least = λ v l. elim (cases_lt v w) [ inl k ↦ (let b = below v k in absurd (omega arith)) | inr k ↦ k ];
}

-- the width of a number, by its leading zeros
pub width : (x : ℕ) → 0 < x → x < 2 ^ 24 → (w : ℕ) × (32 - count_leading_zeros 32 x ≡ w) × (bits_from 24 0 x ≡ w) × LeastBits x w × (w ≤ 24)
width x some small =
    let t = leading_top 32 x some (omega arith) in
    let j = t.0 in
    let below : (v : ℕ) → v < suc j → 2 ^ v ≤ x = λ v h. let m = pow_mono {i = v} {j = j} (omega arith) in omega (arith, t.2) in
    let few : suc j ≤ 24 = elim (cases_lt j 24) [ inl h ↦ h | inr h ↦ (let m = pow_mono {i = 24} {j = j} h in absurd (omega (arith, t.2))) ] in
    (suc j, omega (arith, t.1), bits_is 24 0 x (suc j) (omega arith) few t.3 below, least_of x (suc j) t.3 below, few)
