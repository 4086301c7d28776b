-- The layout of a record, numbers little-endian:
--
--     0   4 bytes    the length of what follows
--     4   2 bytes    the kind: the set's number, then 47 hexadecimal
--     6   2 bytes    the counter
--     8   32 bytes   the digest
--    40   4n bytes   z1 and then z2, two bytes a coefficient in two's complement
--         n/4 bytes  the challenge, two bits a coefficient, the lowest bits first: 0 is 0, 1 is +1, 3 is −1
use Rattle.std.specs.Prelude.{ℕ, ◌+◌, ◌-◌, ◌*◌, ◌/◌, ◌%◌, cond, List, [], ◌∷◌, ◌++◌, map, take, drop, ℤ, ◌==◌, nat_lt, slice_index}
use Rattle.std.specs.Int.{w16}
use Rattle.std.proofs.Common.{to_z, of_z}
use Rattle.params.specs.Params.{Params}

-- what a record says; the coefficients of c are the residues 0, 1 and p − 1
pub record Content : Type 0 where
  pub counter : ℕ
  pub digest : List ℕ
  pub z : List ℤ
  pub c : List ℕ

abbrev pub size : Params → ℕ
size s = 40 + 4 * s.n + s.n / 4

abbrev pub kind : Params → ℕ
kind s = s.number + 0x4700

-- a number in two bytes, and in four
abbrev pub le2 : ℕ → List ℕ
le2 v = v % 256 ∷ v / 256 % 256 ∷ []

abbrev pub le4 : ℕ → List ℕ
le4 v = v % 256 ∷ v / 256 % 256 ∷ v / 65536 % 256 ∷ v / 16777216 % 256 ∷ []

-- the number in the two bytes, and in the four, from a place on
abbrev pub num2 : List ℕ → ℕ → ℕ
num2 bytes at = slice_index bytes at + slice_index bytes (at + 1) * 256

abbrev pub num4 : List ℕ → ℕ → ℕ
num4 bytes at = slice_index bytes at + slice_index bytes (at + 1) * 256 + slice_index bytes (at + 2) * 65536 + slice_index bytes (at + 3) * 16777216

-- integers as two bytes each, and back
abbrev pub z_bytes : List ℤ → List ℕ
z_bytes [] = []
z_bytes (z ∷ zs) = le2 (of_z w16 z) ++ z_bytes zs

abbrev pub z_of : List ℕ → List ℤ
z_of [] = []
z_of (a ∷ []) = []
z_of (a ∷ b ∷ bytes) = to_z w16 (a + b * 256) ∷ z_of bytes

-- the code of a residue of the challenge, and the residue of a code
abbrev pub code_of : ℕ → ℕ
code_of v = cond (nat_lt v 2) v 3

abbrev pub coefficient : ℕ → ℕ → ℕ
coefficient p code = cond (code == 3) (p - 1) code

-- codes four to a byte, and back
abbrev pub packed : List ℕ → List ℕ
packed [] = []
packed (a ∷ []) = []
packed (a ∷ b ∷ []) = []
packed (a ∷ b ∷ c ∷ []) = []
packed (a ∷ b ∷ c ∷ d ∷ codes) = (a + 4 * b + 16 * c + 64 * d) ∷ packed codes

abbrev pub unpacked : List ℕ → List ℕ
unpacked [] = []
unpacked (byte ∷ bytes) = byte % 4 ∷ byte / 4 % 4 ∷ byte / 16 % 4 ∷ byte / 64 % 4 ∷ unpacked bytes

-- the parts of a record's bytes
abbrev pub digest_part : List ℕ → List ℕ
digest_part bytes = take 32 (drop 8 bytes)

abbrev pub z_part : Params → List ℕ → List ℕ
z_part s bytes = take (4 * s.n) (drop 40 bytes)

abbrev pub c_part : Params → List ℕ → List ℕ
c_part s bytes = drop (40 + 4 * s.n) bytes

-- a record as bytes, and what bytes say
abbrev pub encode : Params → Content → List ℕ
encode s r = le4 (size s - 4) ++ (le2 (kind s) ++ (le2 r.counter ++ (r.digest ++ (z_bytes r.z ++ packed (map code_of r.c)))))

abbrev pub decode : Params → List ℕ → Content
decode s bytes = record {
  counter = num2 bytes 6;
  digest = digest_part bytes;
  z = z_of (z_part s bytes);
  c = map (coefficient s.p) (unpacked (c_part s bytes));
}
