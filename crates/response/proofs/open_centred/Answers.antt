use Rattle.std.proofs.Common.{ℕ, ◌<◌, sym, subst}
use Rattle.polys.proofs.Places.{value-below}
use Rattle.response.proofs.open_centred.Goals as goal

pub centred-requires : goal.centred-requires
centred-requires g c =
    let s = g.S.ParamSet.params in
    subst (λ (v : ℕ). v < s.p) (sym c.in_ok-value.ensures.by.1) (value-below s g.row.M g.S.ParamSet.sound 2 c.args.c c.args.z.area.now c.requires.inside c.args.z.sized c.args.z.residues)
