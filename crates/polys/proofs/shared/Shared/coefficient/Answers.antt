use Rattle.std.proofs.Common.{arith, rules}
use Rattle.polys.proofs.Places.{polynomial-inside}
use Rattle.polys.proofs.shared.Shared.coefficient.Goals as goal

pub coefficient-requires : goal.coefficient-requires
coefficient-requires g c =
    let least = g.S.ParamSet.sound.n_least in
    let inside = polynomial-inside g.S.ParamSet.params.n g.row.M (omega arith) g.row.K c.args.c c.args.self.area.now c.requires.inside c.args.self.sized in
    (search rules, (c.args.self.most, inside))
