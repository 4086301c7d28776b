use Rattle.keys.proofs.Columns.{column}
use Rattle.keys.proofs.remask.remask_coefficient.Goals as goal

pub scatter-requires : goal.scatter-requires
scatter-requires g c = column g.S.ParamSet.params g.row.M c.degree-n.result c.args.c c.args.key.now g.S.ParamSet.sound c.degree-n.ensures c.requires.most c.requires.sized c.requires.inside
