use Rattle.std.proofs.Common.{◌≡◌, ◌+◌, ◌-◌, ◌++◌, length, sym, refl, ap, ◌∙◌, arith, rules}
use Rattle.words.proofs.Spendings.{spent_as, short_of}
use Rattle.shares.specs.Groups.{word_of}
use Rattle.shares.specs.Refresh.{pairs, rows}
use Rattle.shares.specs.Conjoined.{crossed_all}
use Rattle.shares.proofs.Pairs.{length_rows}
use Rattle.shares.proofs.Progress.{row_more, rows_more, rows_none}
use Rattle.shares.proofs.Products.{conjoined-value}
use Rattle.shares.proofs.Crossing.{crosses_start, crosses_then, crosses_pair, crosses_short}
use Rattle.shares.proofs.conjunction.sec_and.Goals as goal

pub loop-j-init : goal.loop-j-init
loop-j-init g c = crosses_start (sym (rows_more c.loop-i.i _ c.loop-i-test.true))

pub returns-in_err-r : goal.returns-in_err-r
returns-in_err-r g c =
    let m = g.row.M in
    let i = c.loop-i.i in
    let e = ap (λ r. r ++ rows (i + 1) (m - (i + 1))) (row_more i c.loop-j.j m c.loop-j-test.true) in
    let h = length_rows 0 m in
    let s = short_of {b = pairs m} (crosses_short (crosses_then c.loop-j.invariant refl c.loop-i.invariant) e c.in_err-r.ensures) (omega arith) in
    search rules

pub loop-j-preserved : goal.loop-j-preserved
loop-j-preserved g c =
    let m = g.row.M in
    let i = c.loop-i.i in
    let e = ap (λ r. r ++ rows (i + 1) (m - (i + 1))) (row_more i c.loop-j.j m c.loop-j-test.true) in
    crosses_then (crosses_pair c.in_ok-r.ensures _ e) refl c.loop-j.invariant

pub returns : goal.returns
returns g c =
    let m = g.row.M in
    let hx : length c.args.x ≡ m = search rules in
    let hy : length c.args.y ≡ m = search rules in
    let h = length_rows 0 m in
    let none = rows_none c.loop-i.i m c.loop-i-test.false in
    let l = ap length none in
    let a = c.loop-i.invariant.all in
    let f = g.S.Source.flow in
    let e = ap (λ ps. crossed_all c.args.x c.args.y ps (f c.loop-i.src).words c.loop-i.out) (sym none) ∙ c.loop-i.invariant.on
    ∙ ap (crossed_all c.args.x c.args.y (rows 0 m) (f c.args.src.now).words) c.share_products-out.ensures in
    record {
      by = (
        spent_as c.loop-i.invariant.spent (omega arith),
        (e, ap word_of e ∙ conjoined-value c.args.x c.args.y (hy ∙ sym hx) m (f c.args.src.now).words hx),
      );
    }
