use Rattle.std.proofs.Common.{◌≡◌, ◌+◌, ◌-◌, ◌<◌, arith}
use Rattle.std.proofs.lemmas.Result.{err_from_is_err_and}
use Rattle.std.proofs.lemmas.List.{set-get_or}
use Rattle.shares.proofs.Drawing.{drawing-none, drawing-as, drawing-more, drawing-all, drawing-short}
use Rattle.shares.proofs.draw_masks.Goals as goal
use Rattle.shares.proofs.draw_masks.Goals.{then-i-gt0+in_ok-share, else-i-gt0}

pub loop-i-init : goal.loop-i-init
loop-i-init g c = drawing-none _ g.row.M c.unit-shares.result _ g.G.Group.laws c.requires.some c.unit-shares.ensures

pub loop-i-preserved : goal.loop-i-preserved
loop-i-preserved g c =
    let i = c.loop-i.i in
    elim c.if-i-gt0.branch [
      | then-i-gt0+in_ok-share w ↦
          let d = w.in_ok-share.ensures.by in
          let here : i + (1 - i) ≡ i = omega arith in
          let next : i + 1 ≡ i + 1 + (1 - (i + 1)) = omega arith in
          rw (w.src-is, w.share-items-is) (drawing-as _ next (drawing-more _ g.row.M i _ c.loop-i.share-items _ _ _ g.G.Group.laws w.if-i-gt0.true c.loop-i-test.true d.0 d.1 (drawing-as _ here c.loop-i.invariant)))
      | else-i-gt0 w ↦
          let next : i + (1 - i) ≡ i + 1 + (1 - (i + 1)) = omega arith in
          rw (w.src-is, w.share-items-is, set-get_or c.loop-i.share-items i 0) (drawing-as _ next c.loop-i.invariant)
    ]

pub returns : goal.returns
returns g c =
    let end : c.loop-i.i + (1 - c.loop-i.i) ≡ g.row.M = omega (arith, c.requires.some) in
    let d = drawing-all _ g.row.M _ c.loop-i.share-items _ _ end c.loop-i.invariant in
    record { by = (d.0, d.1) }

pub returns-in_err-share : goal.returns-in_err-share
returns-in_err-share g c =
    let p = err_from_is_err_and c.from_residual.result c.from_residual.ensures.1 in
    let less : c.loop-i.i + (1 - c.loop-i.i) < g.row.M = omega arith in
    rw (p.1, p.2) record { by = drawing-short _ g.row.M (c.loop-i.i + (1 - c.loop-i.i)) _ c.loop-i.share-items _ _ _ (omega arith) less c.in_err-share.ensures.by c.loop-i.invariant }
