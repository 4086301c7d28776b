use Rattle.response.proofs.Nearness.{Passing}
use Rattle.response.proofs.pass.Given as goal

abbrev pub invariant-coefficients : goal.invariant-coefficients
invariant-coefficients g l = Passing g.S.ParamSet.params g.row.M l.z.area.now (g.W.Source.flow l.initial.masks) l.c l.pass (g.W.Source.flow l.masks)
