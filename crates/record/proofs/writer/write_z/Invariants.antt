use Rattle.std.proofs.Common.{◌≡◌, ◌*◌, ◌++◌, take, drop}
use Rattle.record.proofs.writer.write_z.Given as goal
use Rattle.record.specs.Layout.{z_bytes}

abbrev pub invariant-loop-i : goal.invariant-loop-i
invariant-loop-i l = take (2 * l.i) l.part ++ z_bytes (drop l.i l.z) ≡ z_bytes l.z
