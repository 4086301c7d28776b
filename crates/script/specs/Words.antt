-- What words write: numbers in decimal digits, bytes in hexadecimal ones.
use Rattle.std.specs.Prelude.{◌≡◌, ℕ, ◌+◌, ◌*◌, ◌<◌, ◌≤◌, ◌⊎◌, List, [], ◌∷◌, ◌++◌, length, ℤ, pos, neg_ℤ, slice_index}
use Rattle.std.specs.Str.Parse.{IsNumeral, digits_value}
use Rattle.std.specs.Char.{digit_value}

-- decimal digits alone, one or more, whose number is at most max
abbrev pub Decimal : ℕ → List ℕ → Type 0
Decimal max word = IsNumeral 10 word × (digits_value 10 word ≤ max)

-- a word, and the number that it writes, at most max
abbrev pub Number : ℕ → List ℕ → ℕ → Type 0
Number max word n = Decimal max word × (n ≡ digits_value 10 word)

-- a word, and the integer from −128 to 127 that it writes: digits alone, or a minus sign, 45, and then digits
abbrev pub Integer : List ℕ → ℤ → Type 0
Integer word z = (Decimal 127 word × (z ≡ pos (digits_value 10 word))) ⊎ ((digits : List ℕ) × (word ≡ 45 ∷ digits) × Decimal 128 digits × (z ≡ neg_ℤ (pos (digits_value 10 digits))))

-- a text of words, one or more, parted by one space, that write these values
abbrev pub Writes : {A : Type 0} → (List ℕ → A → Type 0) → List ℕ → List A → Type 0
Writes write text [] = ⊥
Writes write text (v ∷ []) = write text v
Writes write text (v ∷ w ∷ more) = (word : List ℕ) × (rest : List ℕ) × (text ≡ word ++ (32 ∷ rest)) × write word v × Writes write rest (w ∷ more)

-- two hexadecimal digits, and the byte that they spell
abbrev pub Pair : ℕ → ℕ → ℕ → Type 0
Pair high low byte = (digit_value high < 16) × (digit_value low < 16) × (byte ≡ 16 * digit_value high + digit_value low)

-- a word of hexadecimal digits that spells these bytes, one or more, two digits to a byte
pub record Spells (word bytes : List ℕ) : Type 0 where
  pub some : 0 < length bytes
  pub sized : length word ≡ 2 * length bytes
  pub pairs : (k : ℕ) → k < length bytes → Pair (slice_index word (2 * k)) (slice_index word (2 * k + 1)) (slice_index bytes k)
