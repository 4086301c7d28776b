use Rattle.std.proofs.Common.{◌≡◌, ◌<◌, ◌≢◌, length, sym, ◌∙◌, arith, length-set, get_or-set_other, get_or-set_same, below_more}
use Rattle.words.proofs.Spendings.{spent_as, spent_then, spent_one}
use Rattle.steps.proofs.Drawing.{first_left, first_words}
use Rattle.steps.proofs.draw_shares.Goals as goal

pub loop-share-preserved : goal.loop-share-preserved
loop-share-preserved g c =
    let d = c.in_ok-share.ensures in
    let i = c.loop-share.share-index in
    let os = c.loop-share.share-items in
    let lt : i < length os = let l = c.loop-share.invariant.0 in omega arith in (
      simp length-set c.loop-share.invariant.0,
      below_more _ _ (λ k h. let ne : k ≢ i = omega arith in rw get_or-set_other (c.loop-share.invariant.1 k h))
          (rw get_or-set_same (sym (first_left _ _ i _ (sym c.loop-share.invariant.2.rest ∙ d.0)))),
      spent_then c.loop-share.invariant.2 (spent_one d),
    )

pub returns : goal.returns
returns g c =
    let at : c.loop-share.share-index ≡ g.row.M = omega arith in
    let s = spent_as c.loop-share.invariant.2 at in
    record { by = (s, first_words c.loop-share.share-items _ g.row.M c.loop-share.invariant.0 s.enough (λ k h. c.loop-share.invariant.1 k (omega arith))) }
