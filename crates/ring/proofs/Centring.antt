-- Residues that stand for integers near 0.
use Rattle.std.proofs.Common.{◌≡◌, ℕ, zero, suc, ◌+◌, ◌-◌, ◌*◌, ◌/◌, ◌%◌, ◌<◌, ◌≤◌, leb, List, [], ◌∷◌, map, ℤ, pos, negsuc, ◌-ℤ◌, nat_abs, refl, ap, ◌∙◌, ap₂, mod-lt, mod-eq_of_lt, arith}
use Rattle.std.specs.Int.{int_rem_euclid}
use Rattle.std.proofs.lemmas.Int.{ints, int_rem_euclid_is}
use native.Mathlib.Nat.{mod-add-div}
use Rattle.std.proofs.lemmas.Bool.{leb-false, le-leb, lt-leb, cond-true, cond-false, cond_both}
use Rattle.ring.specs.Ring.{negate, residue, centre, Residues}
use Rattle.ring.proofs.Modular.{negate_some}
use Rattle.ring.proofs.Polynomials.{cons, residues_tail}

-- a residue in the upper half stands for v − p
above_half : (p v : ℕ) → v < p → pos v -ℤ pos p ≡ negsuc (p - v - 1)
above_half p v h = omega (arith, ints)

residue_above : (p v : ℕ) → 0 < v → v < p → residue p (pos v -ℤ pos p) ≡ v
residue_above p v s h =
    let e : suc (p - v - 1) ≡ p - v = omega arith in
    let back : p - (p - v) ≡ v = omega arith in
    ap (residue p) (above_half p v h) ∙ ap (negate p) e ∙ negate_some p (p - v) (omega arith) (omega arith) ∙ back

pub residue_centre : (p v : ℕ) → v < p → residue p (centre p v) ≡ v
residue_centre p v h =
    cond_both (leb v ((p - 1) / 2)) (pos v) (pos v -ℤ pos p) (λ z. residue p z ≡ v)
    (λ e. mod-eq_of_lt h)
    (λ e. residue_above p v (omega (arith, leb-false v ((p - 1) / 2) e)) h)

pub centre_residue : (p : ℕ) (z : ℤ) → 0 < p → nat_abs z ≤ (p - 1) / 2 → centre p (residue p z) ≡ z
centre_residue p (pos v) s h =
    ap (centre p) (mod-eq_of_lt (omega arith)) ∙ cond-true (leb v ((p - 1) / 2)) (pos v) (pos v -ℤ pos p) (le-leb v ((p - 1) / 2) h)
centre_residue p (negsuc m) s h =
    let v = p - suc m in
    let e : p - v - 1 ≡ m = omega arith in
    ap (centre p) (negate_some p (suc m) (omega arith) (omega arith))
    ∙ cond-false (leb v ((p - 1) / 2)) (pos v) (pos v -ℤ pos p) (lt-leb v ((p - 1) / 2) (omega arith))
    ∙ above_half p v (omega arith)
    ∙ ap negsuc e

pub residue_below : (p : ℕ) (z : ℤ) → 0 < p → residue p z < p
residue_below p (pos v) h = mod-lt v h
residue_below p (negsuc v) h = mod-lt (p - suc v % p) h

-- the remainder that is not negative
pub rem_euclid_residue : (p : ℕ) (z : ℤ) → 0 < p → int_rem_euclid z (pos p) ≡ pos (residue p z)
rem_euclid_residue p (pos v) h = int_rem_euclid_is (pos v) (pos p) p 0 v h refl (omega (arith, ints))
rem_euclid_residue p (negsuc v) h =
    let l : suc v % p < p = mod-lt (suc v) h in
    let e : suc v % p + p * (suc v / p) ≡ suc v = mod-add-div (suc v) p in
    int_rem_euclid_is (negsuc v) (pos p) p (suc v / p + 1) (p - suc v % p) h refl (omega (arith, ints))

-- the same for lists
pub map_residues : (p : ℕ) (zs : List ℤ) → 0 < p → Residues p (map (residue p) zs)
map_residues p [] h k l = absurd (omega arith)
map_residues p (z ∷ zs) h zero l = residue_below p z h
map_residues p (z ∷ zs) h (suc k) l = map_residues p zs h k (omega arith)

pub map_residue_centre : (p : ℕ) (xs : List ℕ) → Residues p xs → map (residue p) (map (centre p) xs) ≡ xs
map_residue_centre p [] r = refl
map_residue_centre p (x ∷ xs) r = ap₂ cons (residue_centre p x (r zero (omega arith))) (map_residue_centre p xs (residues_tail p x xs r))
