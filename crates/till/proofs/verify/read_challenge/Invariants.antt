use Rattle.std.proofs.Common.{◌≡◌, ◌*◌, ◌++◌, map, take, drop}
use Rattle.record.specs.Layout.{coefficient, unpacked}
use Rattle.till.proofs.verify.read_challenge.Given as goal

abbrev pub invariant-loop-i : goal.invariant-loop-i
invariant-loop-i g l =
    let f = coefficient g.S.ParamSet.params.p in
    take (4 * l.i) l.c ++ map f (unpacked (drop l.i l.bytes)) ≡ map f (unpacked l.bytes)
