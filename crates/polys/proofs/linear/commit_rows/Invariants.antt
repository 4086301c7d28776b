use Rattle.polys.proofs.Rows.{Written}
use Rattle.polys.proofs.Sums.{commit_row}
use Rattle.polys.proofs.linear.commit_rows.Given as goal

abbrev pub invariant-shares : goal.invariant-shares
invariant-shares g l =
    let s = g.S.ParamSet.params in
    Written s.n (commit_row s g.row.M l.a.words.now l.y.area.now) l.i l.r
