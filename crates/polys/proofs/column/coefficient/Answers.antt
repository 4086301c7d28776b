use Rattle.std.proofs.Common.{◌≡◌, ℕ, sym, ap, ◌∙◌, subst, arith}
use Rattle.shares.specs.Groups.{residue_rule}
use Rattle.shares.specs.Rule.{Within}
use Rattle.polys.specs.Area.{shares_of}
use Rattle.polys.proofs.Places.{shares-within}
use Rattle.polys.proofs.column.coefficient.Goals as goal

pub returns : goal.returns
returns g c =
    let s = g.S.ParamSet.params in
    let area = c.args.area.now in
    let least = g.S.ParamSet.sound.n_least in
    let is : c.gather.result ≡ shares_of s.n g.row.M area c.args.c = c.gather.ensures ∙ ap (λ (n : ℕ). shares_of n g.row.M area c.args.c) c.degree.ensures in
    record {
      shares = is;
      within = λ r. subst (Within (residue_rule s.p)) (sym is) (shares-within s.n g.row.M s.p area c.args.c (omega arith) c.requires.inside r);
    }
