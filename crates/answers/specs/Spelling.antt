-- Bytes and words, as they are printed.
use Rattle.std.specs.Prelude.{ℕ, ◌/◌, ◌%◌, false, List, [], ◌∷◌, ◌++◌, decimal}
use Rattle.std.specs.Fmt.{digit_glyph}

-- one text after another
abbrev pub spell : (ℕ → List ℕ) → List ℕ → List ℕ
spell text [] = []
spell text (x ∷ xs) = text x ++ spell text xs

-- a byte in two hexadecimal digits, the high one first, in lower case
abbrev pub hex_text : ℕ → List ℕ
hex_text byte = digit_glyph false (byte / 16) ∷ digit_glyph false (byte % 16) ∷ []

-- a word in decimal, behind a space
abbrev pub word_text : ℕ → List ℕ
word_text word = 32 ∷ decimal word
