-- The permutation Keccak-f[1600] of FIPS 202 on a state of 25 lanes.
-- Lane (x, y) stands at x + 5 * y and is a number below 2 ^ 64, whose bit z is the standard's bit A[x, y, z].
use Rattle.std.specs.Prelude.{ℕ, ◌+◌, ◌-◌, ◌*◌, ◌/◌, ◌%◌, ◌^◌, List, [], ◌∷◌, bit_and, bit_or, bit_xor, slice_index, slice_set}

-- a lane rotated to the left by k places
abbrev pub rotl : ℕ → ℕ → ℕ
rotl k a = bit_or ((a * 2 ^ k) % 2 ^ 64) (a / 2 ^ ((64 - k) % 64))

-- a lane with each bit turned
abbrev pub not64 : ℕ → ℕ
not64 a = 2 ^ 64 - 1 - a

-- lane (x, y) of a state
abbrev pub lane : List ℕ → ℕ → ℕ → ℕ
lane a x y = slice_index a (x + 5 * y)

-- the state whose lane (x, y) is f x y
abbrev pub grid : (ℕ → ℕ → ℕ) → List ℕ
grid f =
    f 0 0 ∷ f 1 0 ∷ f 2 0 ∷ f 3 0 ∷ f 4 0
    ∷ f 0 1 ∷ f 1 1 ∷ f 2 1 ∷ f 3 1 ∷ f 4 1
    ∷ f 0 2 ∷ f 1 2 ∷ f 2 2 ∷ f 3 2 ∷ f 4 2
    ∷ f 0 3 ∷ f 1 3 ∷ f 2 3 ∷ f 3 3 ∷ f 4 3
    ∷ f 0 4 ∷ f 1 4 ∷ f 2 4 ∷ f 3 4 ∷ f 4 4 ∷ []

-- the parities of the columns at x, for all z at once
abbrev pub parity : List ℕ → ℕ → ℕ
parity a x = bit_xor (bit_xor (bit_xor (bit_xor (lane a x 0) (lane a x 1)) (lane a x 2)) (lane a x 3)) (lane a x 4)

-- what theta adds to each lane of the sheet at x
abbrev pub sheet : List ℕ → ℕ → ℕ
sheet a x = bit_xor (parity a ((x + 4) % 5)) (rotl 1 (parity a ((x + 1) % 5)))

-- theta adds to each bit the parities of two columns beside it
abbrev pub theta : List ℕ → List ℕ
theta a = grid (λ x y. bit_xor (lane a x y) (sheet a x))

-- how far rho rotates each lane
abbrev pub offsets : List ℕ
offsets =
    0 ∷ 1 ∷ 62 ∷ 28 ∷ 27
    ∷ 36 ∷ 44 ∷ 6 ∷ 55 ∷ 20
    ∷ 3 ∷ 10 ∷ 43 ∷ 25 ∷ 39
    ∷ 41 ∷ 45 ∷ 15 ∷ 21 ∷ 8
    ∷ 18 ∷ 2 ∷ 61 ∷ 56 ∷ 14 ∷ []

-- rho rotates each lane by its offset
abbrev pub rho : List ℕ → List ℕ
rho a = grid (λ x y. rotl (slice_index offsets (x + 5 * y)) (lane a x y))

-- pi moves the lanes
abbrev pub pi : List ℕ → List ℕ
pi a = grid (λ x y. lane a ((x + 3 * y) % 5) x)

-- chi adds to each bit a product of the next two bits of its row
abbrev pub chi : List ℕ → List ℕ
chi a = grid (λ x y. bit_xor (lane a x y) (bit_and (not64 (lane a ((x + 1) % 5) y)) (lane a ((x + 2) % 5) y)))

-- iota adds a round's constant to lane (0, 0)
unfoldable pub iota : ℕ → List ℕ → List ℕ
iota rc a = slice_set a 0 (bit_xor (slice_index a 0) rc)

-- one round
unfoldable pub round : ℕ → List ℕ → List ℕ
round rc a = iota rc (chi (pi (rho (theta a))))

-- the constants of the 24 rounds
abbrev pub round_constants : List ℕ
round_constants =
    0x0000000000000001 ∷ 0x0000000000008082 ∷ 0x800000000000808a ∷ 0x8000000080008000
    ∷ 0x000000000000808b ∷ 0x0000000080000001 ∷ 0x8000000080008081 ∷ 0x8000000000008009
    ∷ 0x000000000000008a ∷ 0x0000000000000088 ∷ 0x0000000080008009 ∷ 0x000000008000000a
    ∷ 0x000000008000808b ∷ 0x800000000000008b ∷ 0x8000000000008089 ∷ 0x8000000000008003
    ∷ 0x8000000000008002 ∷ 0x8000000000000080 ∷ 0x000000000000800a ∷ 0x800000008000000a
    ∷ 0x8000000080008081 ∷ 0x8000000000008080 ∷ 0x0000000080000001 ∷ 0x8000000080008008 ∷ []

-- the rounds with these constants, the first first
unfoldable pub rounds : List ℕ → List ℕ → List ℕ
rounds [] a = a
rounds (rc ∷ rcs) a = rounds rcs (round rc a)

-- the permutation
unfoldable pub keccak_f : List ℕ → List ℕ
keccak_f a = rounds round_constants a
