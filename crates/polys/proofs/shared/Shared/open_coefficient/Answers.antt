use Rattle.std.proofs.Common.{arith}
use Rattle.polys.proofs.Places.{polynomial-inside}
use Rattle.polys.proofs.shared.Shared.open_coefficient.Goals as goal

pub open_coefficient-requires-clause-inside : goal.open_coefficient-requires-clause-inside
open_coefficient-requires-clause-inside g c =
    let least = g.S.ParamSet.sound.n_least in
    polynomial-inside g.S.ParamSet.params.n g.row.M (omega arith) g.row.K c.args.c c.args.self.area.now c.requires.inside c.args.self.sized
