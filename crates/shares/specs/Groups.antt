-- The two groups. How a mask is made, and of how many words, stands here alone.
use Rattle.std.specs.Prelude.{ℕ, ◌+◌, ◌-◌, ◌*◌, ◌%◌, ◌^◌, List, slice_index}
use Rattle.std.specs.Int.Bits.{bit_xor}
use Rattle.shares.specs.Rule.{Rule, recombine}

-- 32-bit words under exclusive or: a mask is one word
abbrev pub word_rule : Rule
word_rule = record { order = 2 ^ 32; op = bit_xor; inverse = λ a. a; unit = 0; cost = 1; mask = λ ws. slice_index ws 0 }

-- residues modulo p under addition: a mask is the residue of two words, the first the high half
abbrev pub residue_rule : ℕ → Rule
residue_rule p = record {
  order = p;
  op = λ a b. (a + b) % p;
  inverse = λ a. (p - a) % p;
  unit = 0;
  cost = 2;
  mask = λ ws. (2 ^ 32 * slice_index ws 0 + slice_index ws 1) % p;
}

-- the word that shares stand for: their exclusive or
abbrev pub word_of : List ℕ → ℕ
word_of = recombine word_rule

-- the residue that shares stand for: their sum modulo p
abbrev pub residue_of : ℕ → List ℕ → ℕ
residue_of p = recombine (residue_rule p)
