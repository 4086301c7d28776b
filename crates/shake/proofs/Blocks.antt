-- Bytes that come one by one are absorbed block by block, and the padding is two bytes of the last block.
use Rattle.std.proofs.Common.{◌≡◌, ℕ, zero, suc, ◌+◌, ◌-◌, ◌*◌, ◌/◌, ◌%◌, ◌^◌, ◌<◌, ◌≤◌, List, [], ◌∷◌, ◌++◌, length, get_or, take, drop, set, replicate, sym, refl, ap, ◌∙◌, subst, inl, inr, zero-add, zero-mul, arith, lit<}
use lib.Bits.{bit_xor, xor_zero_r, xor_assoc}
use Rattle.std.proofs.lemmas.Bool.{cases_lt}
use Rattle.std.proofs.lemmas.List.{take-append-drop, length-take-le, length-drop, length-append, length-replicate, nil_from_length, set-get_or, set-set, set_past, get_or-set_same}
use Rattle.keccak.specs.Keccak.{keccak_f}
use Rattle.shake.specs.Sponge.{xor_byte, xor_bytes, blocks, padding, padded, absorbed}
use Rattle.shake.specs.Progress.{passed, fed}
use Rattle.shake.proofs.Feed.{fed_append, fed_within}

-- bytes up to the block's end
fed_to_end : (s : List ℕ) (k : ℕ) (bs : List ℕ) → k < 136 → k + length bs ≡ 136 → fed s k bs ≡ keccak_f (xor_bytes s k bs)
fed_to_end s k [] l h = let f : ⊥ = omega arith in absurd f
fed_to_end s k (b ∷ bs) l h =
    let le : k + 1 + length bs ≤ 136 = omega arith in
    let e : k + 1 + length bs ≡ 136 = omega arith in
    fed_within s k b bs le ∙ ap (λ (p : ℕ). passed p (xor_bytes s k (b ∷ bs))) e

fed_blocks : (n : ℕ) (s p : List ℕ) → length p ≡ n * 136 → blocks n s p ≡ fed s 0 p
unfolding blocks
fed_blocks zero s p h =
    let z : length p ≡ 0 = omega arith in
    ap (fed s 0) (sym (nil_from_length p z))
fed_blocks (suc n) s p h =
    let le : 136 ≤ length p = omega arith in
    let long = length-take-le 136 p le in
    let full : 0 + length (take 136 p) ≡ 136 = omega arith in
    let rest : length (drop 136 p) ≡ n * 136 = omega (arith, length-drop 136 p) in
    let front = fed_to_end s 0 (take 136 p) (lit< tt) full in
    let more = fed_blocks n (keccak_f (xor_bytes s 0 (take 136 p))) (drop 136 p) rest in
    let apart = fed_append s 0 (take 136 p) (drop 136 p) (lit< tt) in
    let place : (0 + length (take 136 p)) % 136 ≡ 0 = omega arith in
    let joined = take-append-drop 136 p in
    cc

xor_byte_none : (s : List ℕ) (k : ℕ) → xor_byte s k 0 ≡ s
unfolding xor_byte
xor_byte_none s k =
    ap (λ (v : ℕ). set s (k / 8) (bit_xor (get_or s (k / 8) 0) v)) (zero-mul (2 ^ (8 * (k % 8))))
    ∙ ap (set s (k / 8)) (xor_zero_r (get_or s (k / 8) 0))
    ∙ set-get_or s (k / 8) 0

xor_byte_twice : (s : List ℕ) → xor_byte s 135 0x9F ≡ xor_byte (xor_byte s 135 0x1F) 135 0x80
unfolding xor_byte
xor_byte_twice s =
    let x : ℕ = get_or s 16 0 in
    let u : ℕ = bit_xor x (0x1F * 2 ^ 56) in
    elim (cases_lt 16 (length s)) [
      | inl l ↦
          let g : get_or (set s 16 u) 16 0 ≡ u = get_or-set_same s 16 u 0 l in
          let a : bit_xor u (0x80 * 2 ^ 56) ≡ bit_xor x (0x9F * 2 ^ 56) = xor_assoc x (0x1F * 2 ^ 56) (0x80 * 2 ^ 56) in
          sym (ap (λ (v : ℕ). set (set s 16 u) 16 (bit_xor v (0x80 * 2 ^ 56))) g ∙ set-set s 16 u (bit_xor u (0x80 * 2 ^ 56)) ∙ ap (set s 16) a)
      | inr g ↦
          let none = set_past s 16 u g in
          set_past s 16 (bit_xor x (0x9F * 2 ^ 56)) g
          ∙ sym (ap (λ (t : List ℕ). set t 16 (bit_xor (get_or t 16 0) (0x80 * 2 ^ 56))) none ∙ set_past s 16 (bit_xor x (0x80 * 2 ^ 56)) g)
    ]

xor_zeros : (n : ℕ) (s : List ℕ) (k : ℕ) → k + n ≡ 135 → xor_bytes s k (replicate n 0 ++ 0x80 ∷ []) ≡ xor_byte s 135 0x80
unfolding xor_bytes
xor_zeros zero s k h =
    let e : k ≡ 135 = omega arith in
    ap (λ (j : ℕ). xor_byte s j 0x80) e
xor_zeros (suc n) s k h =
    let e : k + 1 + n ≡ 135 = omega arith in
    ap (λ (t : List ℕ). xor_bytes t (k + 1) (replicate n 0 ++ 0x80 ∷ [])) (xor_byte_none s k) ∙ xor_zeros n s (k + 1) e

xor_padding : (n : ℕ) (s : List ℕ) (k : ℕ) → k + n ≡ 135 → xor_bytes s k (padding n) ≡ xor_byte (xor_byte s k 0x1F) 135 0x80
unfolding padding xor_bytes
xor_padding zero s k h =
    let e : 135 ≡ k = omega arith in
    subst (λ (j : ℕ). xor_byte s j 0x9F ≡ xor_byte (xor_byte s j 0x1F) 135 0x80) e (xor_byte_twice s)
xor_padding (suc n) s k h =
    let e : k + 1 + n ≡ 135 = omega arith in
    xor_zeros n (xor_byte s k 0x1F) (k + 1) e

length_padding : (n : ℕ) → length (padding n) ≡ n + 1
unfolding padding
length_padding zero = refl
length_padding (suc n) = simp (length-append, length-replicate) (omega arith)

-- the state that the code leaves once it has added the padding
pub absorbed_is : (m : List ℕ) → absorbed m ≡ keccak_f (xor_byte (xor_byte (fed (replicate 25 0) 0 m) (length m % 136) 0x1F) 135 0x80)
unfolding absorbed padded
absorbed_is m =
    let z : List ℕ = replicate 25 0 in
    let k : ℕ = length m % 136 in
    let p : List ℕ = m ++ padding (135 - k) in
    let long : length p ≡ length m + (135 - length m % 136 + 1) = simp (length-append, length_padding) in
    let whole : length p ≡ length p / 136 * 136 = omega arith in
    let sum : k + (135 - k) ≡ 135 = omega arith in
    let within : k < 136 = omega arith in
    let full : k + length (padding (135 - k)) ≡ 136 = omega (arith, length_padding (135 - k)) in
    let place : (0 + length m) % 136 ≡ k = ap (λ (j : ℕ). j % 136) (zero-add (length m)) in
    fed_blocks (length p / 136) z p whole
    ∙ fed_append z 0 m (padding (135 - k)) (lit< tt)
    ∙ ap (λ (j : ℕ). fed (fed z 0 m) j (padding (135 - k))) place
    ∙ fed_to_end (fed z 0 m) k (padding (135 - k)) within full
    ∙ ap keccak_f (xor_padding (135 - k) (fed z 0 m) k sum)
