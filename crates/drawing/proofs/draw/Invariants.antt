use Rattle.std.proofs.Common.{ℕ, ◌<◌, length}
use Rattle.words.specs.Flow.{Flow}
use Rattle.shares.specs.Rule.{Within}
use Rattle.shares.specs.Groups.{residue_rule}
use Rattle.polys.specs.Area.{shares_of, values}
use Rattle.drawing.specs.Resume.{Subject}
use Rattle.drawing.specs.Drawing.{Drawing}
use Rattle.drawing.proofs.draw.Given as goal

abbrev pub invariant-candidates : goal.invariant-candidates
invariant-candidates g l =
    let s = g.S.ParamSet.params in
    let N = g.N.Source.flow in
    let W = g.W.Source.flow in
    (u : Subject) (n f : Flow) → Drawing s g.row.M u (values s g.row.M l.i l.y) n (N l.initial.nonces) f (W l.initial.masks) → Drawing s g.row.M u (values s g.row.M l.i l.y) n (N l.nonces) f (W l.masks)

abbrev pub decreases-candidates : goal.decreases-candidates
decreases-candidates g l = length (g.N.Source.flow l.nonces).words

abbrev pub invariant-coefficients : goal.invariant-coefficients
invariant-coefficients g l =
    let s = g.S.ParamSet.params in
    ((u : Subject) → Drawing s g.row.M u (values s g.row.M l.i l.y) (g.N.Source.flow l.initial.nonces) (g.N.Source.flow l.nonces) (g.W.Source.flow l.initial.masks) (g.W.Source.flow l.masks))
    × ((k : ℕ) → k < l.i → Within (residue_rule s.p) (shares_of s.n g.row.M l.y k))
