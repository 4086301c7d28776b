use Rattle.std.proofs.Common.{ℕ, ◌*◌}
use Rattle.shares.specs.Groups.{residue_rule}
use Rattle.shares.specs.Refresh.{pairs}
use Rattle.shares.specs.Rule.{recombine}
use Rattle.polys.specs.Area.{shares_of}
use Rattle.polys.proofs.Filling.{Filling}
use Rattle.polys.proofs.opening.open_poly.Given as goal

abbrev pub invariant-coefficients : goal.invariant-coefficients
invariant-coefficients g l =
    let s = g.S.ParamSet.params in
    let u = residue_rule s.p in
    Filling 0 (λ (c : ℕ). recombine u (shares_of s.n g.row.M l.r.area.now c)) (u.cost * pairs g.row.M) (g.W.Source.flow l.initial.masks) l.c l.out (g.W.Source.flow l.masks)
