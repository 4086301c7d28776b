use Rattle.std.proofs.Common.{◌≡◌, take}
use Rattle.keys.specs.Load.{residues_of}
use Rattle.keys.proofs.public_key.read_secret.Given as goal

abbrev pub invariant-coefficients : goal.invariant-coefficients
invariant-coefficients g l = take l.i l.out ≡ residues_of g.S.ParamSet.params (take l.i l.secret)
