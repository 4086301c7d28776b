-- Words of 32 bits: the carries of a sum, and which of two words is smaller.
use Rattle.std.specs.Prelude.{ℕ, cond, bit_and, bit_xor, nat_lt}
use Rattle.linear.specs.Words.{shifted}

-- in each place: a run of 2 n places, ending there, gives a carry, where g and p tell so of runs of n places
abbrev pub generated : ℕ → ℕ → ℕ → ℕ
generated n g p = bit_xor g (bit_and (shifted n g) p)

-- in each place: a run of 2 n places, ending there, hands a carry on
abbrev pub propagated : ℕ → ℕ → ℕ
propagated n p = bit_and p (shifted n p)

-- 1 where x is below y, else 0
abbrev pub is_below : ℕ → ℕ → ℕ
is_below x y = cond (nat_lt x y) 1 0
