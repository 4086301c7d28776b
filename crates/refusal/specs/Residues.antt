-- The test of an area's words.
use Rattle.std.specs.Prelude.{◌≡◌, ℕ, ◌<◌, List, length, Some, None, Ok, Err, Option, Result, nat_le, slice_index}
use Rattle.refusal.specs.Tests.{at_index}
use Rattle.refusal.specs.declared.Area.{Area}
use Rattle.refusal.specs.declared.Refusal.{Refusal}
use Rattle.refusal.specs.declared.Refusal.TheVariants.{NotResidue}
use Rattle.search.specs.First.{first_at}

-- the refusal of the lowest index of a word that is p or more
abbrev pub residue_test : Area → ℕ → List ℕ → Option Refusal
residue_test area p words = at_index (NotResidue area) (first_at (nat_le p) words)

-- the test passes, and all words are below p; or it hit
abbrev pub TestsResidues : {A : Type 0} → Area → ℕ → List ℕ → Result A Refusal → Type 0
TestsResidues area p words (Ok _) = (residue_test area p words ≡ None) × ((k : ℕ) → k < length words → slice_index words k < p)
TestsResidues area p words (Err e) = residue_test area p words ≡ Some e
