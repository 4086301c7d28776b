-- The steps of signing that draw words, as they are told.
use Rattle.std.specs.Prelude.{ℕ}
use Rattle.refusal.specs.declared.fault.Step.{Step}
use Rattle.refusal.specs.declared.fault.Step.TheVariants.{Candidate, Conversion, Commit, Check, Open}

abbrev pub step_number : Step → ℕ
step_number (Candidate at) = 1
step_number (Conversion at) = 2
step_number Commit = 3
step_number Check = 5
step_number Open = 6
