use Rattle.std.proofs.Common.{ℕ, List, ◌++◌, take}
use Rattle.challenge.proofs.absorb_residues.Given as goal
use Rattle.record.specs.Layout.{le4}
use Rattle.shake.specs.Progress.{Absorbing}
use Rattle.std.specs.List.{flat_map}

abbrev pub invariant-residues : goal.invariant-residues
invariant-residues l = (m : List ℕ) → Absorbing m l.initial.hasher → Absorbing (m ++ flat_map le4 (take l.x-index l.r)) l.hasher
