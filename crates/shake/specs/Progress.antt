-- How far a hasher has come. A caller carries these facts from `new` on; what they give in the end is bytes of the output.
use Rattle.std.specs.Prelude.{◌≡◌, ℕ, ◌+◌, ◌/◌, ◌%◌, cond, List, [], ◌∷◌, length, replicate, nat_lt}
use Rattle.keccak.specs.Keccak.{keccak_f}
use Rattle.shake.specs.Sponge.{xor_byte, later, absorbed}
use Rattle.shake.specs.declared.Shake256.{Shake256}
use Rattle.shake.specs.declared.Squeezer.{Squeezer}

-- the state s once its block is done up to byte p: at the end it is permuted
abbrev pub passed : ℕ → List ℕ → List ℕ
passed p s = cond (nat_lt p 136) s (keccak_f s)

-- the state s after bytes that come one by one, the first at byte k of a block
abbrev pub fed : List ℕ → ℕ → List ℕ → List ℕ
fed s k [] = s
fed s k (b ∷ bs) = fed (passed (k + 1) (xor_byte s k b)) ((k + 1) % 136) bs

-- the hasher has absorbed m so far
pub record Absorbing (m : List ℕ) (h : Shake256) : Type 0 where
  pub state_is : h.sponge.state ≡ fed (replicate 25 0) 0 m
  pub place_is : h.sponge.pos ≡ length m % 136

-- the next byte to be squeezed out is byte i of the output for m
abbrev pub Reading : List ℕ → ℕ → Squeezer → Type 0
Reading m i h = (h.sponge.state ≡ later (i / 136) (absorbed m)) × (h.sponge.pos ≡ i % 136)
