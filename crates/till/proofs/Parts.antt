-- The polynomials of a key and of a record.
use Rattle.std.proofs.Common.{◌≡◌, ℕ, ◌-◌, ◌/◌, ◌<◌, eqb, List, map, length, get_or, sym, ap, ◌∙◌, subst, arith}
use Rattle.std.proofs.lemmas.List.{length-map, get_or-map}
use Rattle.std.proofs.lemmas.Bool.{cond_both}
use Rattle.std.proofs.lemmas.Simd.{map-map}
use Rattle.params.specs.Params.{Params, Sound}
use Rattle.record.proofs.Fields.{get_d_unpacked, length_unpacked}
use Rattle.record.proofs.Firsts.{in_pair, z_of-pairs}
use Rattle.std.specs.Simd.{first_chunks}
use Rattle.record.specs.Layout.{coefficient, unpacked, z_of}
use Rattle.ring.proofs.Centring.{map_residues}
use Rattle.ring.specs.Ring.{Residues, residue}

-- the residue of the coefficient in two bytes
abbrev pub residue_in : ℕ → List ℕ → ℕ
residue_in p bytes = residue p (in_pair bytes)

pub z-residues : (p k : ℕ) (bs : List ℕ) → k ≡ length bs / 2 → map (residue_in p) (first_chunks 2 k bs) ≡ map (residue p) (z_of bs)
z-residues p k bs h = sym (map-map (residue p) in_pair (first_chunks 2 k bs)) ∙ ap (map (residue p)) (z_of-pairs k bs h)

pub modulus_some : (s : Params) → Sound s → 5 < s.p
modulus_some s sound = omega (arith, sound.k_below_p, sound.alpha_below_k, sound.alpha_some)

coefficient_below : (p code : ℕ) → 5 < p → code < 4 → coefficient p code < p
coefficient_below p code h l = cond_both (eqb code 3) (p - 1) code (λ v. v < p) (λ e. omega arith) (λ e. omega arith)

pub challenge_residues : (s : Params) → Sound s → (bs : List ℕ) → Residues s.p (map (coefficient s.p) (unpacked bs))
challenge_residues s sound bs k l =
    let codes : List ℕ = unpacked bs in
    let inside : k < length codes = omega (arith, length-map codes (coefficient s.p)) in
    let small : get_or codes k 0 < 4 = omega (arith, get_d_unpacked bs k 0 (omega (arith, length_unpacked bs))) in
    rw (get_or-map (coefficient s.p) codes k 0 0 inside) (coefficient_below s.p (get_or codes k 0) (modulus_some s sound) small)

-- the residues of z
pub z_residues : (s : Params) → Sound s → (bs z : List ℕ) → z ≡ map (residue s.p) (z_of bs) → Residues s.p z
z_residues s sound bs z e = subst (Residues s.p) (sym e) (map_residues s.p (z_of bs) (omega (arith, modulus_some s sound)))
