-- The tape: what it has still to give.
use Rattle.std.specs.Prelude.{ℕ, ◌^◌, ◌≤◌, List, length, drop}
use Rattle.std.proofs.Common.{arith, length-drop}
use Rattle.words.specs.declared.Mark.TheVariants.{Spent}
use Rattle.words.specs.Flow.{Flow, from}

-- a tape of these words: those from the next one on
abbrev pub tape_flow : List ℕ → ℕ → Flow
tape_flow words at = from (drop at words) Spent

pub tape_few : (words : List ℕ) (at : ℕ) → length words ≤ 2 ^ 40 → length (tape_flow words at).words ≤ 2 ^ 40
tape_few words at few = let d = length-drop at words in omega arith
