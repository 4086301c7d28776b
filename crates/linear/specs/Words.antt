-- Words of 32 bits, and what is done to them share by share.
use Rattle.std.specs.Prelude.{◌≡◌, ℕ, ◌-◌, ◌*◌, ◌/◌, ◌%◌, ◌^◌, ◌<◌, List, length, replicate, bit_xor, slice_index, slice_set}

-- each share of zs is f of the share of xs that has its number
abbrev pub ByShare : (ℕ → ℕ) → (xs zs : List ℕ) → Type 0
ByShare f xs zs = (k : ℕ) → k < length xs → slice_index zs k ≡ f (slice_index xs k)

-- the same for shares of two words
abbrev pub ByShares : (ℕ → ℕ → ℕ) → (xs ys zs : List ℕ) → Type 0
ByShares f xs ys zs = (k : ℕ) → k < length xs → slice_index zs k ≡ f (slice_index xs k) (slice_index ys k)

-- a word that is no secret, in m shares: itself and zeros
abbrev pub constant : ℕ → ℕ → List ℕ
constant m x = slice_set (replicate m 0) 0 x

-- a word moved up by k places
abbrev pub shifted : ℕ → ℕ → ℕ
shifted k a = (a * 2 ^ k) % 2 ^ 32

-- a word's top bit in every place
abbrev pub spread_top : ℕ → ℕ
spread_top a = (2 ^ 32 - a / 2 ^ 31) % 2 ^ 32

-- each bit of a word turned
abbrev pub flipped : ℕ → ℕ
flipped a = bit_xor a (2 ^ 32 - 1)
