-- Known answers of SHAKE256.
use Rattle.std.specs.Prelude.{◌≡◌, [], ◌∷◌}
use Rattle.shake.specs.Sponge.{shake256}

-- the front of the output for the empty message
abbrev pub OfEmpty : Type 0
OfEmpty = shake256 [] 8 ≡ 0x46 ∷ 0xB9 ∷ 0xDD ∷ 0x2B ∷ 0x0B ∷ 0xA8 ∷ 0x8D ∷ 0x13 ∷ []

-- the front of the output for the message "abc"
abbrev pub OfAbc : Type 0
OfAbc = shake256 (0x61 ∷ 0x62 ∷ 0x63 ∷ []) 8 ≡ 0x48 ∷ 0x33 ∷ 0x66 ∷ 0x60 ∷ 0x13 ∷ 0x60 ∷ 0xA8 ∷ 0x77 ∷ []

abbrev pub VectorsHold : Type 0
VectorsHold = OfEmpty × OfAbc
