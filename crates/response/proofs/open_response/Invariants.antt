use Rattle.std.proofs.Common.{ℕ, ◌*◌, pos}
use Rattle.ring.specs.Ring.{centre}
use Rattle.shares.specs.Groups.{residue_rule}
use Rattle.shares.specs.Refresh.{pairs}
use Rattle.shares.specs.Rule.{recombine}
use Rattle.polys.specs.Area.{shares_of}
use Rattle.polys.proofs.Filling.{Filling}
use Rattle.response.proofs.open_response.Given as goal

abbrev pub invariant-coefficients : goal.invariant-coefficients
invariant-coefficients g l =
    let s = g.S.ParamSet.params in
    let u = residue_rule s.p in
    Filling (pos 0) (λ (c : ℕ). centre s.p (recombine u (shares_of s.n g.row.M l.z.area.now c))) (u.cost * pairs g.row.M) (g.W.Source.flow l.initial.masks) l.c l.out (g.W.Source.flow l.masks)
