-- What is done share by share, and keeps exclusive ors, is done to the word.
use Rattle.std.proofs.Common.{◌≡◌, ℕ, zero, suc, ◌+◌, ◌-◌, ◌*◌, ◌/◌, ◌%◌, ◌^◌, ◌<◌, ◌≤◌, List, [], ◌∷◌, length, get_or, replicate, sym, refl, ap, ◌∙◌, ap₂, suc-le-suc, add-zero, mod-lt, mod-eq_of_lt, zero-lt-suc, zero-mul, arith, pow_pos}
use lib.Bits.{bit_and, bit_xor, xor_assoc, xor_block, xor_mod, xor_shr, xor_lt, and_mask, xor_add_and, xor_zero_r}
use Rattle.shares.specs.Groups.{word_of}
use Rattle.linear.specs.Words.{constant, shifted}
use Rattle.shares.proofs.Boolean.{xor_and, xor_left_comm, digit_ind}

-- the first i shares are made of those that were there, the others still as they were
abbrev pub Made : (ℕ → ℕ → Type 0) → List ℕ → List ℕ → ℕ → Type 0
Made R xs os i = (length os ≡ length xs) × ((k : ℕ) → k < i → R k (get_or os k 0)) × ((k : ℕ) → i ≤ k → get_or os k 0 ≡ get_or xs k 0)

-- f keeps 0 and exclusive ors
pub record Linear (f : ℕ → ℕ) : Type 0 where
  pub none : f 0 ≡ 0
  pub both : (a b : ℕ) → f (bit_xor a b) ≡ bit_xor (f a) (f b)

pub placed : (f : ℕ → ℕ) → Linear f → (os xs : List ℕ) → length os ≡ length xs
    → ((k : ℕ) → k < length xs → get_or os k 0 ≡ f (get_or xs k 0)) → word_of os ≡ f (word_of xs)
placed f L [] [] e h = sym L.none
placed f L [] (x ∷ xs) e h = absurd (omega arith)
placed f L (o ∷ os) [] e h = absurd (omega arith)
placed f L (o ∷ os) (x ∷ xs) e h =
    ap₂ bit_xor (h 0 (omega arith)) (placed f L os xs (omega arith) (λ k l. h (suc k) (suc-le-suc l))) ∙ sym (L.both x (word_of xs))

pub placed_xor : (os xs ys : List ℕ) → length os ≡ length xs → length ys ≡ length xs
    → ((k : ℕ) → k < length xs → get_or os k 0 ≡ bit_xor (get_or xs k 0) (get_or ys k 0)) → word_of os ≡ bit_xor (word_of xs) (word_of ys)
placed_xor [] [] [] e f h = refl
placed_xor [] [] (y ∷ ys) e f h = absurd (omega arith)
placed_xor [] (x ∷ xs) ys e f h = absurd (omega arith)
placed_xor (o ∷ os) [] ys e f h = absurd (omega arith)
placed_xor (o ∷ os) (x ∷ xs) [] e f h = absurd (omega arith)
placed_xor (o ∷ os) (x ∷ xs) (y ∷ ys) e f h =
    ap₂ bit_xor (h 0 (omega arith)) (placed_xor os xs ys (omega arith) (omega arith) (λ k l. h (suc k) (suc-le-suc l)))
    ∙ swap x y (word_of xs) (word_of ys)
  where
    swap : (a b c d : ℕ) → bit_xor (bit_xor a b) (bit_xor c d) ≡ bit_xor (bit_xor a c) (bit_xor b d)
    swap a b c d = simp (xor_assoc, xor_left_comm)

-- shifts, masks and the digits of a word
pub shift_linear : (k : ℕ) → Linear (shifted k)
shift_linear k = record {
  none = let z : 0 * 2 ^ k ≡ 0 = zero-mul (2 ^ k) in ap (λ (x : ℕ). x % 2 ^ 32) z;
  both = λ a b.
      ap (λ (x : ℕ). x % 2 ^ 32) (sym (add-zero (bit_xor a b * 2 ^ k)) ∙ sym (xor_block k a b 0 0 (pow_pos k) (pow_pos k)) ∙ ap₂ bit_xor (add-zero (a * 2 ^ k)) (add-zero (b * 2 ^ k)))
      ∙ xor_mod (a * 2 ^ k) (b * 2 ^ k) 32;
}

pub shr_linear : (k : ℕ) → Linear (λ x. x / 2 ^ k)
shr_linear k = record { none = omega (arith, pow_pos k); both = λ a b. xor_shr a b k }

pub and_linear : (m : ℕ) → Linear (λ x. bit_and x m)
and_linear m = record { none = refl; both = λ a b. xor_and a b m }

-- the value of shares of w bits has w bits
pub word_fits : (w : ℕ) (xs : List ℕ) → ((k : ℕ) → get_or xs k 0 < 2 ^ w) → word_of xs < 2 ^ w
word_fits w [] h = pow_pos w
word_fits w (x ∷ xs) h = xor_lt w x (word_of xs) (h 0) (word_fits w xs (λ k. h (suc k)))

-- the lowest bit, in every place
abbrev pub spread : ℕ → ℕ
spread x = (2 ^ 32 - x % 2) % 2 ^ 32

pub spread_top_linear : Linear (λ x. spread (x / 2 ^ 31))
spread_top_linear = record {
  none = refl;
  both = λ a b.
      ap (λ (x : ℕ). (2 ^ 32 - x) % 2 ^ 32) (ap (λ (x : ℕ). x % 2) (xor_shr a b 31) ∙ xor_mod (a / 2 ^ 31) (b / 2 ^ 31) 1)
      ∙ digit_ind (λ x. (2 ^ 32 - bit_xor x (b / 2 ^ 31 % 2)) % 2 ^ 32 ≡ bit_xor ((2 ^ 32 - x) % 2 ^ 32) (spread (b / 2 ^ 31))) refl
      (digit_ind (λ y. (2 ^ 32 - bit_xor 1 y) % 2 ^ 32 ≡ bit_xor ((2 ^ 32 - 1) % 2 ^ 32) ((2 ^ 32 - y) % 2 ^ 32)) refl refl (b / 2 ^ 31 % 2) (mod-lt (b / 2 ^ 31) (zero-lt-suc 1)))
      (a / 2 ^ 31 % 2) (mod-lt (a / 2 ^ 31) (zero-lt-suc 1));
}

-- the top bit of a word is its bit 31
pub top_is : (x : ℕ) → x < 2 ^ 32 → (2 ^ 32 - x / 2 ^ 31) % 2 ^ 32 ≡ spread (x / 2 ^ 31)
top_is x h = ap (λ (b : ℕ). (2 ^ 32 - b) % 2 ^ 32) {x = x / 2 ^ 31} {y = x / 2 ^ 31 % 2} (omega arith)

-- a complement, and a word that is no secret
pub not_is : (w a : ℕ) → a < 2 ^ w → (2 ^ w - 1) - a ≡ bit_xor a (2 ^ w - 1)
not_is w a h =
    let e : bit_and a (2 ^ w - 1) ≡ a = and_mask a w ∙ mod-eq_of_lt h in
    let s : bit_xor a (2 ^ w - 1) + bit_and a (2 ^ w - 1) * 2 ≡ a + (2 ^ w - 1) = xor_add_and a (2 ^ w - 1) in
    omega (arith, pow_pos w)

pub word_zeros : (n : ℕ) → word_of (replicate n 0) ≡ 0
word_zeros zero = refl
word_zeros (suc n) = word_zeros n

pub word_public : {ys : List ℕ} (n x : ℕ) → 0 < n → ys ≡ constant n x → word_of ys ≡ x
word_public zero x h e = absurd (omega arith)
word_public (suc n) x h e = ap word_of e ∙ ap (bit_xor x) (word_zeros n) ∙ xor_zero_r x
