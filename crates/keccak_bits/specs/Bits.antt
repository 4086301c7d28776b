-- The steps of Keccak-f[1600] as FIPS 202 writes them, bit by bit: A s x y z is the standard's A[x, y, z] of the state s.
use Rattle.std.specs.Prelude.{◌≡◌, ℕ, ◌+◌, ◌-◌, ◌*◌, ◌/◌, ◌%◌, ◌^◌, ◌<◌, List, bit_and, bit_xor, slice_index}
use Rattle.keccak.specs.Keccak.{lane, offsets, theta, rho, pi, chi}

-- bit z of a number
abbrev pub bit : ℕ → ℕ → ℕ
bit n z = n / 2 ^ z % 2

-- bit z of lane (x, y)
abbrev pub A : List ℕ → ℕ → ℕ → ℕ → ℕ
A s x y z = bit (lane s x y) z

-- the parity of a column
abbrev pub C : List ℕ → ℕ → ℕ → ℕ
C s x z = bit_xor (bit_xor (bit_xor (bit_xor (A s x 0 z) (A s x 1 z)) (A s x 2 z)) (A s x 3 z)) (A s x 4 z)

-- what the four steps that move or mix bits make of one bit
pub record Steps (s : List ℕ) (x y z : ℕ) : Type 0 where
  pub theta_is : A (theta s) x y z ≡ bit_xor (A s x y z) (bit_xor (C s ((x + 4) % 5) z) (C s ((x + 1) % 5) ((z + 63) % 64)))
  pub rho_is : A (rho s) x y z ≡ A s x y ((z + (64 - slice_index offsets (x + 5 * y))) % 64)
  pub pi_is : A (pi s) x y z ≡ A s ((x + 3 * y) % 5) x z
  pub chi_is : A (chi s) x y z ≡ bit_xor (A s x y z) (bit_and (bit_xor (A s ((x + 1) % 5) y z) 1) (A s ((x + 2) % 5) y z))

-- at every bit of every state of lanes
abbrev pub StepsFollow : Type 0
StepsFollow = (s : List ℕ) → ((i : ℕ) → slice_index s i < 2 ^ 64) → (x y z : ℕ) → x < 5 → y < 5 → z < 64 → Steps s x y z
