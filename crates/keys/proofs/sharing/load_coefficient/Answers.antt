use Rattle.keys.proofs.Columns.{column}
use Rattle.keys.proofs.sharing.load_coefficient.Goals as goal

pub scatter-requires : goal.scatter-requires
scatter-requires g c = column g.S.ParamSet.params g.row.M c.degree.result c.args.c c.args.key.now g.S.ParamSet.sound c.degree.ensures c.requires.most c.requires.sized c.requires.inside
