use Rattle.std.proofs.Common.{◌∙◌, arith}
use Rattle.ring.proofs.Modular.{reduce_once}
use Rattle.ring.proofs.add.Goals as goal

pub returns : goal.returns
returns g c = c.reduce_once.ensures ∙ reduce_once g.S.ParamSet.params.p _ (omega arith)
