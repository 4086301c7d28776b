-- The rules by which FIPS 202 makes the two tables of the permutation.
use Rattle.std.specs.Prelude.{◌≡◌, ℕ, zero, suc, ◌+◌, ◌-◌, ◌*◌, ◌/◌, ◌%◌, ◌^◌, cond, List, map, replicate, bit_xor, nat_lt, slice_set}
use Rattle.std.specs.List.{range_with_len}
use Rattle.keccak.specs.Keccak.{round_constants, offsets}

-- the linear feedback shift register of eight bits after t steps: it is doubled modulo x^8 + x^6 + x^5 + x^4 + 1
abbrev pub register : ℕ → ℕ
register zero = 1
register (suc t) = let r = register t in cond (nat_lt r 128) (2 * r) (bit_xor (2 * r - 256) 0x71)

-- the register's output at time t
abbrev pub rc_bit : ℕ → ℕ
rc_bit t = register (t % 255) % 2

-- the constant of round i has seven of these bits, at the places 2 ^ j - 1
abbrev pub constant_of : ℕ → ℕ
constant_of i =
    rc_bit (7 * i) + rc_bit (7 * i + 1) * 2 ^ 1 + rc_bit (7 * i + 2) * 2 ^ 3 + rc_bit (7 * i + 3) * 2 ^ 7 + rc_bit (7 * i + 4) * 2 ^ 15
    + rc_bit (7 * i + 5) * 2 ^ 31 + rc_bit (7 * i + 6) * 2 ^ 63

-- n more steps of the walk that fills the offsets: at its step t it stands at lane (x, y) and writes (t + 1)(t + 2) / 2
abbrev pub walk : ℕ → ℕ → ℕ → ℕ → List ℕ → List ℕ
walk zero t x y os = os
walk (suc n) t x y os = walk n (t + 1) y ((2 * x + 3 * y) % 5) (slice_set os (x + 5 * y) ((t + 1) * (t + 2) / 2 % 64))

-- both tables follow their rules; the walk starts at lane (1, 0) and leaves lane (0, 0) at 0
abbrev pub TablesFollow : Type 0
TablesFollow = (round_constants ≡ map constant_of (range_with_len 0 24)) × (offsets ≡ walk 24 0 1 0 (replicate 25 0))
