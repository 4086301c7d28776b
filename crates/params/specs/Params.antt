-- Parameter sets: the numbers that fix a ring and the signatures over it.
use Rattle.std.specs.Prelude.{◌≡◌, ℕ, ◌+◌, ◌-◌, ◌*◌, ◌%◌, ◌^◌, ◌<◌, ◌≤◌}

-- n coefficients, residues modulo p, nonces from −k to k, at most alpha places of a challenge, and the byte that names the set
pub record Params : Type 0 where
  pub n : ℕ
  pub p : ℕ
  pub k : ℕ
  pub alpha : ℕ
  pub number : ℕ

-- what every set meets, and all that generic code knows of one
pub record Sound (s : Params) : Type 0 where
  pub log : ℕ
  pub n_power : s.n ≡ 2 ^ log
  pub n_least : 4 ≤ s.n
  pub n_most : s.n ≤ 1024
  pub p_small : s.p < 2 ^ 24
  pub p_splits : (s.p - 1) % (2 * s.n) ≡ 0
  pub alpha_some : 0 < s.alpha
  pub alpha_below_k : s.alpha < s.k
  pub alpha_fits : s.alpha ≤ s.n
  pub k_below_p : 2 * s.k + 1 < s.p
  pub reach_small : s.k - s.alpha < 2 ^ 15
  pub number_byte : s.number < 256

-- how far from 0 a coefficient of a signature may lie
abbrev pub reach : Params → ℕ
reach s = s.k - s.alpha

-- the small set, for tests and worked examples
abbrev pub set_s : Params
set_s = record { n = 4; p = 97; k = 10; alpha = 2; number = 0 }

-- the set that cards in the field use
abbrev pub set_i : Params
set_i = record { n = 512; p = 8383489; k = 16384; alpha = 32; number = 1 }
