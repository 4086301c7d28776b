use Rattle.std.proofs.Common.{◌≡◌, ℕ, ◌+◌, ◌-◌, ◌*◌, ◌%◌, ◌^◌, ◌<◌, List, get_or, ap, ◌∙◌, ap₂, lit<}
use lib.Bits.{bit_and, bit_xor, xor_lt}
use Rattle.keccak.specs.Keccak.{lane, rotl, not64, parity, sheet, offsets, theta, rho, pi, chi}
use Rattle.keccak_bits.specs.Bits.{bit, A, C}
use Rattle.keccak_bits.proofs.Digits.{bit_of_xor, bit_of_and, bit_rotl, bit_not, bit_parity, grid_at, below5}
use Rattle.keccak_bits.proofs.steps_follow.Goals as goal

module _ (s : List ℕ) (f : (i : ℕ) → get_or s i 0 < 2 ^ 64) (x y z : ℕ) (hx : x < 5) (hy : y < 5) (hz : z < 64) where
  parity-fits : (u : ℕ) → parity s u < 2 ^ 64
  parity-fits u =
      xor_lt 64 _ _ (xor_lt 64 _ _ (xor_lt 64 _ _ (xor_lt 64 _ _ (f (u + 5 * 0)) (f (u + 5 * 1))) (f (u + 5 * 2))) (f (u + 5 * 3))) (f (u + 5 * 4))

  offsets-fit : get_or offsets (x + 5 * y) 0 < 64
  offsets-fit =
      let P : ℕ → Type 0 = λ u. (v : ℕ) → v < 5 → get_or offsets (u + 5 * v) 0 < 64 in
      below5 P
      (below5 (λ v. get_or offsets (0 + 5 * v) 0 < 64) (lit< tt) (lit< tt) (lit< tt) (lit< tt) (lit< tt))
      (below5 (λ v. get_or offsets (1 + 5 * v) 0 < 64) (lit< tt) (lit< tt) (lit< tt) (lit< tt) (lit< tt))
      (below5 (λ v. get_or offsets (2 + 5 * v) 0 < 64) (lit< tt) (lit< tt) (lit< tt) (lit< tt) (lit< tt))
      (below5 (λ v. get_or offsets (3 + 5 * v) 0 < 64) (lit< tt) (lit< tt) (lit< tt) (lit< tt) (lit< tt))
      (below5 (λ v. get_or offsets (4 + 5 * v) 0 < 64) (lit< tt) (lit< tt) (lit< tt) (lit< tt) (lit< tt))
      x hx y hy

  theta-at : A (theta s) x y z ≡ bit_xor (A s x y z) (bit_xor (C s ((x + 4) % 5) z) (C s ((x + 1) % 5) ((z + 63) % 64)))
  theta-at =
      ap (λ (v : ℕ). bit v z) (grid_at (λ u v. bit_xor (lane s u v) (sheet s u)) x y hx hy)
      ∙ bit_of_xor (lane s x y) (sheet s x) z
      ∙ ap (bit_xor (A s x y z))
      (bit_of_xor (parity s ((x + 4) % 5)) (rotl 1 (parity s ((x + 1) % 5))) z
      ∙ ap₂ bit_xor (bit_parity s ((x + 4) % 5) z) (bit_rotl (parity s ((x + 1) % 5)) 1 z (parity-fits ((x + 1) % 5)) (lit< tt) hz ∙ bit_parity s ((x + 1) % 5) ((z + 63) % 64)))

  rho-at : A (rho s) x y z ≡ A s x y ((z + (64 - get_or offsets (x + 5 * y) 0)) % 64)
  rho-at =
      ap (λ (v : ℕ). bit v z) (grid_at (λ u v. rotl (get_or offsets (u + 5 * v) 0) (lane s u v)) x y hx hy)
      ∙ bit_rotl (lane s x y) (get_or offsets (x + 5 * y) 0) z (f (x + 5 * y)) offsets-fit hz

  pi-at : A (pi s) x y z ≡ A s ((x + 3 * y) % 5) x z
  pi-at = ap (λ (v : ℕ). bit v z) (grid_at (λ u v. lane s ((u + 3 * v) % 5) u) x y hx hy)

  chi-at : A (chi s) x y z ≡ bit_xor (A s x y z) (bit_and (bit_xor (A s ((x + 1) % 5) y z) 1) (A s ((x + 2) % 5) y z))
  chi-at =
      ap (λ (v : ℕ). bit v z) (grid_at (λ u v. bit_xor (lane s u v) (bit_and (not64 (lane s ((u + 1) % 5) v)) (lane s ((u + 2) % 5) v))) x y hx hy)
      ∙ bit_of_xor (lane s x y) (bit_and (not64 (lane s ((x + 1) % 5) y)) (lane s ((x + 2) % 5) y)) z
      ∙ ap (bit_xor (A s x y z))
      (bit_of_and (not64 (lane s ((x + 1) % 5) y)) (lane s ((x + 2) % 5) y) z
      ∙ ap (λ (v : ℕ). bit_and v (A s ((x + 2) % 5) y z)) (bit_not (lane s ((x + 1) % 5) y) z (f ((x + 1) % 5 + 5 * y)) hz))

pub returns : goal.returns
returns c =
    λ s f x y z hx hy hz.
    record { theta_is = theta-at s f x y z hx hy hz; rho_is = rho-at s f x y z hx hy hz; pi_is = pi-at s f x y z hx hy hz; chi_is = chi-at s f x y z hx hy hz }
