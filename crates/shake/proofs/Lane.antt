-- Eight bytes at a lane's start are one number.
use Rattle.std.proofs.Common.{◌≡◌, ℕ, suc, ◌+◌, ◌*◌, ◌/◌, ◌%◌, ◌^◌, ◌<◌, ◌≤◌, List, [], ◌∷◌, length, get_or, drop, set, sym, ap, ◌∙◌, subst, mul_assoc, mul_comm, add-mul, arith}
use lib.Bits.{bit_xor, xor_assoc, xor_comm, xor_zero_r, xor_shifted}
use lib.Lanes.{Each1, number_l}
use Rattle.std.proofs.lemmas.Nat.{shl_below, pow-add}
use Rattle.std.proofs.lemmas.List.{set-get_or, set-set, get_or-set_same, drop_more, drop_all}
use Rattle.shake.specs.Sponge.{xor_byte, xor_bytes}

-- a byte and what stands above it
byte_and_rest : (b n j : ℕ) → b < 256 → bit_xor (b * 2 ^ (8 * j)) (n * 2 ^ (8 * (j + 1))) ≡ (b + 256 * n) * 2 ^ (8 * j)
byte_and_rest b n j h =
    let p : ℕ = 2 ^ (8 * j) in
    let e : 8 * (j + 1) ≡ 8 + 8 * j = omega arith in
    let q : 2 ^ (8 * (j + 1)) ≡ 256 * p = ap (λ (k : ℕ). 2 ^ k) e ∙ pow-add 2 8 (8 * j) in
    let low : b * p < 2 ^ (8 * (j + 1)) = subst (λ (k : ℕ). b * p < 2 ^ k) (sym e) (shl_below b 8 (8 * j) h) in
    let sum = xor_shifted n (8 * (j + 1)) (b * p) low in
    let t : n * 2 ^ (8 * (j + 1)) ≡ 256 * n * p = ap (λ (k : ℕ). n * k) q ∙ sym (mul_assoc n 256 p) ∙ ap (λ (k : ℕ). k * p) (mul_comm n 256) in
    let d = add-mul b (256 * n) p in
    xor_comm (b * p) (n * 2 ^ (8 * (j + 1))) ∙ sum ∙ omega (arith, t, d)

one_byte : (s : List ℕ) (q v j b : ℕ) → q < length s → j < 8 → xor_byte (set s q v) (8 * q + j) b ≡ set s q (bit_xor v (b * 2 ^ (8 * j)))
unfolding xor_byte
one_byte s q v j b l h =
    let d : (8 * q + j) / 8 ≡ q = omega arith in
    let r : (8 * q + j) % 8 ≡ j = omega arith in
    let g = get_or-set_same s q v 0 l in
    let w = set-set s q v (bit_xor v (b * 2 ^ (8 * j))) in
    cc

bytes_in_lane : (s : List ℕ) (q v j : ℕ) (bs : List ℕ) → q < length s → j + length bs ≤ 8 → Each1 (λ b. b < 256) bs
    → xor_bytes (set s q v) (8 * q + j) bs ≡ set s q (bit_xor v (number_l 256 bs * 2 ^ (8 * j)))
unfolding xor_bytes
bytes_in_lane s q v j [] l h a =
    let z : 0 * 2 ^ (8 * j) ≡ 0 = omega arith in
    ap (set s q) (sym (xor_zero_r v)) ∙ ap (λ (k : ℕ). set s q (bit_xor v k)) (sym z)
bytes_in_lane s q v j (b ∷ bs) l h a =
    let lt : j < 8 = omega arith in
    let le : j + 1 + length bs ≤ 8 = omega arith in
    let n : ℕ = number_l 256 bs in
    let u : ℕ = bit_xor v (b * 2 ^ (8 * j)) in
    let e : 8 * q + j + 1 ≡ 8 * q + (j + 1) = omega arith in
    let first = one_byte s q v j b l lt in
    let more = bytes_in_lane s q u (j + 1) bs l le a.1 in
    let both = xor_assoc v (b * 2 ^ (8 * j)) (n * 2 ^ (8 * (j + 1))) in
    let one = byte_and_rest b n j a.0 in
    cc

number_at : (xs : List ℕ) (i : ℕ) → i < length xs → number_l 256 (drop i xs) ≡ get_or xs i 0 + 256 * number_l 256 (drop (i + 1) xs)
number_at xs i h = ap (number_l 256) (drop_more xs i 0 h)

-- the number that the code makes of eight bytes
pub eight_number : (xs : List ℕ) (w : ℕ) → length xs ≡ 8
    → w ≡ get_or xs 0 0 + get_or xs 1 0 * 256 + get_or xs 2 0 * 65536 + get_or xs 3 0 * 16777216 + get_or xs 4 0 * 4294967296
    + get_or xs 5 0 * 1099511627776 + get_or xs 6 0 * 281474976710656 + get_or xs 7 0 * 72057594037927936
    → w ≡ number_l 256 xs
eight_number xs w h e =
    omega (
      arith,
      number_at xs 0 (omega arith),
      number_at xs 1 (omega arith),
      number_at xs 2 (omega arith),
      number_at xs 3 (omega arith),
      number_at xs 4 (omega arith),
      number_at xs 5 (omega arith),
      number_at xs 6 (omega arith),
      number_at xs 7 (omega arith),
      ap (number_l 256) (drop_all 8 xs (omega arith)),
    )

pub each_byte : (xs : List ℕ) → ((i : ℕ) → get_or xs i 0 < 256) → Each1 (λ b. b < 256) xs
each_byte [] f = tt
each_byte (x ∷ xs) f = (f 0, each_byte xs (λ i. f (suc i)))

-- the state once the code has added a lane, but for the permutation
pub lane_is : (s : List ℕ) (k w : ℕ) (bs : List ℕ) → k / 8 < length s → k % 8 ≡ 0 → length bs ≡ 8 → Each1 (λ b. b < 256) bs → w ≡ number_l 256 bs
    → set s (k / 8) (bit_xor (get_or s (k / 8) 0) w) ≡ xor_bytes s k bs
lane_is s k w bs l h n a e =
    let q : ℕ = k / 8 in
    let at : 8 * q + 0 ≡ k = omega arith in
    let le : 0 + length bs ≤ 8 = omega arith in
    let one : number_l 256 bs * 2 ^ (8 * 0) ≡ number_l 256 bs = omega arith in
    let all = bytes_in_lane s q (get_or s q 0) 0 bs l le a in
    let same = set-get_or s q 0 in
    cc
