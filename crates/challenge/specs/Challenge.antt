-- The challenge: a hash of a commitment, a digest and a counter to a polynomial that has at most alpha coefficients other than 0, each 1 or −1.
use Rattle.std.specs.Prelude.{ℕ, zero, suc, ◌-◌, ◌*◌, ◌%◌, cond, List, [], ◌∷◌, ◌++◌, map, replicate, ◌==◌, nat_le, slice_index, slice_set}
use Rattle.std.specs.List.{range_with_len, flat_map}
use Rattle.params.specs.Params.{Params}
use Rattle.record.specs.Layout.{le2, le4}
use Rattle.shake.specs.Sponge.{shake_word16}
use Rattle.challenge.specs.declared.Sign.{Sign}
use Rattle.challenge.specs.declared.Sign.TheVariants.{Plus, Minus}

-- what is hashed: the residues of r in four bytes each, the digest, and the counter in two
abbrev pub message : List ℕ → List ℕ → ℕ → List ℕ
message r digest counter = flat_map le4 r ++ (digest ++ le2 counter)

-- the two-byte words that may be read of its SHAKE256
unfoldable pub stream : List ℕ → List ℕ
stream m = map (λ j. shake_word16 m (2 * j)) (range_with_len 0 512)

-- a word tells a position, and by its highest bit a sign
abbrev pub place : ℕ → ℕ → ℕ × Sign
place n word = (word % n, cond (nat_le 0x8000 word) Minus Plus)

-- 1 or −1
abbrev pub unit : ℕ → Sign → ℕ
unit p Plus = 1
unit p Minus = p - 1

-- the challenge once the words are gone through, with so many positions still wanted: a taken position is skipped
unfoldable pub filled : Params → ℕ → List ℕ → List ℕ → List ℕ
filled s zero words c = c
filled s (suc wanted) [] c = c
filled s (suc wanted) (w ∷ words) c =
    let at = place s.n w in
    cond (slice_index c at.0 == 0) (filled s wanted words (slice_set c at.0 (unit s.p at.1))) (filled s (suc wanted) words c)

unfoldable pub challenge : Params → List ℕ → List ℕ → ℕ → List ℕ
challenge s r digest counter = filled s s.alpha (stream (message r digest counter)) (replicate s.n 0)
