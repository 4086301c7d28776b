use Rattle.polys.proofs.Rows.{Written}
use Rattle.polys.proofs.Sums.{respond_row}
use Rattle.polys.proofs.linear.respond_rows.Given as goal

abbrev pub invariant-rows : goal.invariant-rows
invariant-rows g l =
    let s = g.S.ParamSet.params in
    Written s.n (respond_row s l.key.area.now l.c.words.now l.y.area.now) l.j l.z
