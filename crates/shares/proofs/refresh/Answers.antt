use Rattle.std.proofs.Common.{◌+◌, ◌-◌, ◌++◌, sym, refl, ap}
use Rattle.std.proofs.lemmas.Result.{err_from_is_err_and}
use Rattle.shares.specs.Refresh.{rows}
use Rattle.shares.proofs.Progress.{row_more, rows_more, row_none, rows_none, goes_start, goes_then, goes_pair, goes_done, goes_short}
use Rattle.shares.proofs.refresh.Goals as goal

pub loop-j-init : goal.loop-j-init
loop-j-init g c = goes_start _ (sym (rows_more c.loop-i.i _ c.loop-i-test.true)) c.loop-i.invariant.within

pub returns-in_err-refresh_pair : goal.returns-in_err-refresh_pair
returns-in_err-refresh_pair g c =
    let m = g.row.M in
    let i = c.loop-i.i in
    let e = ap (λ r. r ++ rows (i + 1) (m - (i + 1))) (row_more i c.loop-j.j m c.loop-j-test.true) in
    let p = err_from_is_err_and c.from_residual.result c.from_residual.ensures.1 in
    rw (p.1, p.2) (goes_short (goes_then c.loop-j.invariant refl c.loop-i.invariant) e c.in_err-refresh_pair.ensures)

pub loop-j-preserved : goal.loop-j-preserved
loop-j-preserved g c =
    let m = g.row.M in
    let i = c.loop-i.i in
    let e = ap (λ r. r ++ rows (i + 1) (m - (i + 1))) (row_more i c.loop-j.j m c.loop-j-test.true) in
    goes_then (goes_pair c.in_ok-refresh_pair.ensures _ e) refl c.loop-j.invariant

pub loop-i-preserved : goal.loop-i-preserved
loop-i-preserved g c =
    let m = g.row.M in
    let i = c.loop-i.i in
    let e = ap (λ r. r ++ rows (i + 1) (m - (i + 1))) (row_none i c.loop-j.j m c.loop-j-test.false) in
    goes_then (goes_then (goes_start _ refl c.loop-j.invariant.within) (sym e) c.loop-j.invariant) refl c.loop-i.invariant

pub returns : goal.returns
returns g c = goes_done c.loop-i.invariant (rows_none _ _ c.loop-i-test.false)
