use Rattle.std.proofs.Common.{◌≡◌, drop}
use Rattle.keccak.specs.Keccak.{rounds, round_constants}
use Rattle.keccak.proofs.permute.Given as goal

abbrev pub invariant-loop-constant : goal.invariant-loop-constant
invariant-loop-constant l = rounds (drop l.constant-index round_constants) l.a ≡ rounds round_constants l.initial.a
