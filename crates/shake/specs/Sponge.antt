-- SHAKE256 of FIPS 202: the sponge over Keccak-f[1600] at a rate of 136 bytes, with the suffix 1111 and the padding 10*1.
use Rattle.std.specs.Prelude.{ℕ, zero, suc, ◌+◌, ◌-◌, ◌*◌, ◌/◌, ◌%◌, ◌^◌, List, [], ◌∷◌, ◌++◌, map, length, take, drop, replicate, bit_xor, slice_index, slice_set}
use Rattle.std.specs.List.{range_with_len}
use Rattle.keccak.specs.Keccak.{keccak_f}

-- byte k of a state: eight bits of its lane k / 8, from bit 8 * (k % 8)
unfoldable pub byte_of : List ℕ → ℕ → ℕ
byte_of s k = slice_index s (k / 8) / 2 ^ (8 * (k % 8)) % 256

-- the state s with the byte b added, modulo two, to its byte k
unfoldable pub xor_byte : List ℕ → ℕ → ℕ → List ℕ
xor_byte s k b = slice_set s (k / 8) (bit_xor (slice_index s (k / 8)) (b * 2 ^ (8 * (k % 8))))

-- the state s with bytes added to its byte k and those that follow
unfoldable pub xor_bytes : List ℕ → ℕ → List ℕ → List ℕ
xor_bytes s k [] = s
xor_bytes s k (b ∷ bs) = xor_bytes (xor_byte s k b) (k + 1) bs

-- the state s after n blocks of 136 bytes from the front of p
unfoldable pub blocks : ℕ → List ℕ → List ℕ → List ℕ
blocks zero s p = s
blocks (suc n) s p = blocks n (keccak_f (xor_bytes s 0 (take 136 p))) (drop 136 p)

-- n + 1 bytes that fill a block: the suffix 1111, a bit 1, as many bits 0 as there is room for and a bit 1, each byte's lowest bit first
unfoldable pub padding : ℕ → List ℕ
padding zero = 0x9F ∷ []
padding (suc n) = 0x1F ∷ (replicate n 0 ++ 0x80 ∷ [])

-- the message with its padding: whole blocks, at least one
unfoldable pub padded : List ℕ → List ℕ
padded m = m ++ padding (135 - length m % 136)

-- the state once the message is absorbed
unfoldable pub absorbed : List ℕ → List ℕ
absorbed m = blocks (length (padded m) / 136) (replicate 25 0) (padded m)

-- the state n permutations later
unfoldable pub later : ℕ → List ℕ → List ℕ
later zero s = s
later (suc n) s = keccak_f (later n s)

-- byte i of the output, which has no end
unfoldable pub shake_byte : List ℕ → ℕ → ℕ
shake_byte m i = byte_of (later (i / 136) (absorbed m)) (i % 136)

-- the first n bytes of the output
unfoldable pub shake256 : List ℕ → ℕ → List ℕ
shake256 m n = map (shake_byte m) (range_with_len 0 n)

-- the number that n bytes of the output make, from byte i on, the lowest first
unfoldable pub shake_word : ℕ → List ℕ → ℕ → ℕ
shake_word zero m i = 0
shake_word (suc n) m i = shake_byte m i + 256 * shake_word n m (i + 1)

-- the word of 16 bits at byte i
abbrev pub shake_word16 : List ℕ → ℕ → ℕ
shake_word16 m i = shake_word 2 m i

-- the word of 32 bits at byte i
abbrev pub shake_word32 : List ℕ → ℕ → ℕ
shake_word32 m i = shake_word 4 m i
