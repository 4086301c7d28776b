-- What the pass bit says: no coefficient is far.
use Rattle.std.proofs.Common.{◌≡◌, ℕ, zero, suc, ◌+◌, ◌-◌, ◌*◌, ◌/◌, ◌%◌, ◌<◌, ◌≤◌, Bool, true, false, not, ◌&&◌, eqb, ltb, leb, List, [], ◌∷◌, ◌++◌, map, length, get_or, ℤ, pos, ◌-ℤ◌, nat_abs, sym, refl, ap, ◌∙◌, subst, ap₂, ⊎_elim, mod-eq_of_lt, arith}
use mathlib.Core.List.{map-map}
use native.Mathlib.Nat.{mod-eq-sub-mod}
use lib.Bits.{bit_and}
use Rattle.std.specs.List.{range_with_len}
use Rattle.std.proofs.lemmas.List.{length-map, get_or-map, map_push}
use Rattle.std.proofs.lemmas.List.FromFn.{map-range_with_len_more}
use Rattle.std.proofs.lemmas.Int.{ints}
use Rattle.std.proofs.lemmas.Bool.{cases_lt, cond_both, lt-ltb, le-ltb, ltb-false, leb-true, leb-false, not-true, and_parts}
use Rattle.params.specs.Params.{Params, reach}
use Rattle.ring.specs.Ring.{centre}
use Rattle.record.specs.Reading.{far, all_near}
use Rattle.shares.specs.Rule.{recombine}
use Rattle.shares.specs.Groups.{residue_rule, residue_of, word_of}
use Rattle.shares.specs.Refresh.{pairs}
use Rattle.gadgets.specs.Words.{is_below}
use Rattle.words.specs.declared.Mark.{Mark}
use Rattle.words.specs.Flow.{Flow}
use Rattle.words.specs.Spending.{Spent, Short}
use Rattle.words.proofs.Spendings.{spent_none, spent_then, spent_as, short_then, short_of, times_none, times_more, times_below}
use Rattle.polys.specs.Area.{shares_of, values, recombined}
use Rattle.polys.proofs.Places.{values-at, values-long}
use Rattle.response.specs.Pass.{pass_bit}

-- one test is the other turned round
turned : (a b c d : ℕ) → (a < b → d ≤ c) → (b ≤ a → c < d) → ltb a b ≡ not (ltb c d)
turned a b c d f g =
    ⊎_elim
    (λ (h : a < b). lt-ltb a b h ∙ sym (ap not (le-ltb c d (f h))))
    (λ (h : b ≤ a). le-ltb a b h ∙ sym (ap not (lt-ltb c d (g h))))
    (cases_lt a b)

-- a residue in the upper half lies p − v from 0
upper : (p v : ℕ) → v < p → nat_abs (pos v -ℤ pos p) ≡ p - v
upper p v h = omega (arith, ints)

module _ (p k v : ℕ) (small : v < p) (room : 2 * k + 1 < p) where
  moved-low : v + k < p → (v + k) % p ≡ v + k
  moved-low h = mod-eq_of_lt h

  moved-high : p ≤ v + k → (v + k) % p ≡ v + k - p
  moved-high h = mod-eq-sub-mod h ∙ mod-eq_of_lt (omega arith)

  -- the test of the moved residue tells how far from 0 it lies
  pub moved-near : ltb ((v + k) % p) (2 * k + 1) ≡ not (ltb k (nat_abs (centre p v)))
  moved-near =
      cond_both (leb v ((p - 1) / 2)) (pos v) (pos v -ℤ pos p) (λ (z : ℤ). ltb ((v + k) % p) (2 * k + 1) ≡ not (ltb k (nat_abs z)))
      (λ e.
      let l = leb-true v ((p - 1) / 2) e in
      let m = moved-low (omega arith) in
      turned ((v + k) % p) (2 * k + 1) k v (λ h. omega arith) (λ h. omega arith))
      (λ e.
      let l = leb-false v ((p - 1) / 2) e in
      let u = upper p v small in
      ⊎_elim
      (λ (h : v + k < p). let m = moved-low h in turned ((v + k) % p) (2 * k + 1) k (nat_abs (pos v -ℤ pos p)) (λ a. omega arith) (λ a. omega arith))
      (λ (h : p ≤ v + k). let m = moved-high h in turned ((v + k) % p) (2 * k + 1) k (nat_abs (pos v -ℤ pos p)) (λ a. omega arith) (λ a. omega arith))
      (cases_lt (v + k) p))

-- both bits
both_bits : (a b : Bool) → bit_and (pass_bit a) (pass_bit b) ≡ pass_bit (b && a)
both_bits true true = refl
both_bits true false = refl
both_bits false true = refl
both_bits false false = refl

-- the bit read
pub bit_read : (b : Bool) → eqb (pass_bit b) 1 ≡ b
bit_read true = refl
bit_read false = refl

and-true : (a : Bool) → (a && true) ≡ a
and-true true = refl
and-true false = refl

and_assoc : (a b c : Bool) → (a && (b && c)) ≡ ((a && b) && c)
and_assoc true b c = refl
and_assoc false b c = refl

near_push : (s : Params) (zs : List ℤ) (z : ℤ) → all_near s (zs ++ z ∷ []) ≡ (all_near s zs && not (far s z))
near_push s [] z = and-true (not (far s z))
near_push s (y ∷ zs) z = ap (λ (b : Bool). not (far s y) && b) (near_push s zs z) ∙ and_assoc (not (far s y)) (all_near s zs) (not (far s z))

pub near_at : (s : Params) (zs : List ℤ) (k : ℕ) → all_near s zs ≡ true → k < length zs → nat_abs (get_or zs k (pos 0)) ≤ reach s
near_at s [] k h l = absurd (omega arith)
near_at s (z ∷ zs) zero h l = ltb-false (reach s) (nat_abs z) (not-true (far s z) (and_parts (not (far s z)) (all_near s zs) h).0)
near_at s (z ∷ zs) (suc k) h l = near_at s zs k (and_parts (not (far s z)) (all_near s zs) h).1 (omega arith)

module _ (s : Params) (m : ℕ) (area : List ℕ) (f₀ : Flow) where
  abbrev value : ℕ → ℕ
  value c = recombine (residue_rule s.p) (shares_of s.n m area c)

  abbrev near_before : ℕ → Bool
  near_before c = all_near s (map (centre s.p) (values s m c area))

  abbrev cost : ℕ
  cost = (33 * m + 16) * pairs m

  near-more : (c : ℕ) → near_before (c + 1) ≡ (near_before c && not (far s (centre s.p (value c))))
  unfolding values
  near-more c =
      ap (λ (vs : List ℕ). all_near s (map (centre s.p) vs)) (map-range_with_len_more value 0 c c (omega arith))
      ∙ ap (all_near s) (map_push (centre s.p) (map value (range_with_len 0 c)) (value c))
      ∙ near_push s (map (centre s.p) (map value (range_with_len 0 c))) (centre s.p (value c))

  -- the coefficients below c are checked
  pub record Passing (c : ℕ) (pass : List ℕ) (f : Flow) : Type 0 where
    pub spent : Spent (c * cost) f₀ f
    pub bit : word_of pass ≡ pass_bit (near_before c)

  pub passing-none : (pass : List ℕ) → word_of pass ≡ 1 → Passing 0 pass f₀
  unfolding values
  passing-none pass e = record { spent = spent_as (spent_none f₀) (sym (times_none cost)); bit = e }

  pub passing-more : (c : ℕ) (xs pass pass' : List ℕ) {f f' : Flow} → xs ≡ shares_of s.n m area c → value c < s.p → 2 * reach s + 1 < s.p
      → Spent cost f f' → word_of pass' ≡ bit_and (is_below ((residue_of s.p xs + reach s) % s.p) (2 * reach s + 1)) (word_of pass) → Passing c pass f → Passing (c + 1) pass' f'
  passing-more c xs pass pass' d small room t e g =
      let q = s.p in
      let r = reach s in
      record {
        spent = spent_as (spent_then g.spent t) (times_more c cost);
        bit =
            e
            ∙ ap₂ (λ (ys : List ℕ) (w : ℕ). bit_and (is_below ((residue_of q ys + r) % q) (2 * r + 1)) w) d g.bit
            ∙ ap (λ (t : Bool). bit_and (pass_bit t) (pass_bit (near_before c))) (moved-near q r (value c) small room)
            ∙ both_bits (not (far s (centre q (value c)))) (near_before c)
            ∙ ap pass_bit (sym (near-more c));
      }

  pub passing-all : (c : ℕ) (pass : List ℕ) (f : Flow) → c ≡ 2 * s.n → Passing c pass f → Spent (2 * s.n * cost) f₀ f × (word_of pass ≡ pass_bit (all_near s (map (centre s.p) (recombined s m area))))
  unfolding recombined
  passing-all c pass f e g = (spent_as g.spent (ap (λ (k : ℕ). k * cost) e), g.bit ∙ ap (λ (k : ℕ). pass_bit (near_before k)) e)

  pub passing-short : (c : ℕ) (pass : List ℕ) (e : Mark) (f f' : Flow) → c < 2 * s.n → Short cost e f f' → Passing c pass f → Short (2 * s.n * cost) e f₀ f'
  passing-short c pass e f f' h t g = short_of (short_then g.spent t) (times_below c (2 * s.n) cost h)

-- where all are near, each is
pub near_value : (s : Params) (m : ℕ) (area : List ℕ) (c : ℕ) → all_near s (map (centre s.p) (recombined s m area)) ≡ true → c < 2 * s.n → nat_abs (centre s.p (recombine (residue_rule s.p) (shares_of s.n m area c))) ≤ reach s
unfolding recombined
near_value s m area c h l =
    let vs = values s m (2 * s.n) area in
    let long : length vs ≡ 2 * s.n = values-long s m (2 * s.n) area in
    let wide = length-map vs (centre s.p) in
    subst (λ (z : ℤ). nat_abs z ≤ reach s)
    (get_or-map (centre s.p) vs c 0 (pos 0) (omega arith) ∙ ap (centre s.p) (values-at s m (2 * s.n) area c l))
    (near_at s (map (centre s.p) vs) c h (omega arith))

-- the integers, one by one
pub centred_values : (s : Params) (m : ℕ) (area : List ℕ) → map (λ (c : ℕ). centre s.p (recombine (residue_rule s.p) (shares_of s.n m area c))) (range_with_len 0 (2 * s.n)) ≡ map (centre s.p) (recombined s m area)
unfolding recombined values
centred_values s m area = sym (map-map (centre s.p) (λ (c : ℕ). recombine (residue_rule s.p) (shares_of s.n m area c)) (range_with_len 0 (2 * s.n)))
