use Rattle.keys.proofs.Loading.{Going}
use Rattle.keys.proofs.sharing.load_key.Given as goal

abbrev pub invariant-loop-c : goal.invariant-loop-c
invariant-loop-c g l = Going g.S.ParamSet.params g.row.M l.secret.coefficients.now (g.W.Source.flow l.initial.masks) l.c l.key (g.W.Source.flow l.masks)
