use Rattle.std.proofs.Common.{◌≡◌, map, take}
use Rattle.till.proofs.Parts.{residue_in}
use Rattle.till.proofs.verify.read_z.Given as goal

abbrev pub invariant-loop-i : goal.invariant-loop-i
invariant-loop-i g l = take l.i l.z ≡ map (residue_in g.S.ParamSet.params.p) (take l.i l.pairs)
