use Rattle.std.proofs.Common.{◌≡◌, map, take}
use Rattle.record.proofs.Fill.{four_in}
use Rattle.record.proofs.writer.write_challenge.Given as goal

abbrev pub invariant-loop-i : goal.invariant-loop-i
invariant-loop-i l = take l.i l.part ≡ map four_in (take l.i l.fours)
