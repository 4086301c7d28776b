use Rattle.std.proofs.Common.{ℕ, ◌<◌, ◌≢◌, length, get_or, ap, ◌∙◌, arith, length-set, below_more}
use Rattle.std.proofs.lemmas.List.{get_or-set_same, get_or-set_other}
use Rattle.polys.proofs.Places.{shares-are}
use Rattle.polys.proofs.column.gather.Goals as goal

pub loop-i-preserved : goal.loop-i-preserved
loop-i-preserved g c =
    let i = c.loop-i.i in
    let xs = c.loop-i.share-items in
    let lt : i < length xs = let l = c.loop-i.invariant.0 in omega arith in (
      length-set xs i _ ∙ c.loop-i.invariant.0,
      below_more _ _ (λ k h. let ne : k ≢ i = omega arith in get_or-set_other xs i k _ 0 ne ∙ c.loop-i.invariant.1 k h) (get_or-set_same xs i _ 0 lt ∙ ap (λ (j : ℕ). get_or c.args.area.now j 0) c.place.ensures.is),
    )

pub returns : goal.returns
returns g c = shares-are c.args.n g.row.M c.args.area.now c.args.c c.loop-i.share-items c.loop-i.invariant.0 (λ k h. c.loop-i.invariant.1 k (omega arith))
