use Rattle.std.proofs.Common.{◌≡◌, ℕ, ◌<◌, ◌≢◌, length, get_or, sym, ap, ◌∙◌, arith, rules, below_more}
use Rattle.std.proofs.lemmas.List.{get_or-set_same, get_or-set_other}
use Rattle.polys.specs.Area.{place}
use Rattle.polys.proofs.Places.{shares-are, shares-same, place_inside, place-apart}
use Rattle.polys.proofs.column.scatter.Goals as goal

pub loop-i-preserved : goal.loop-i-preserved
loop-i-preserved g c =
    let n = c.args.n in
    let m = g.row.M in
    let some = c.requires.small.0 in
    let i = c.loop-i.i in
    let area = c.loop-i.area in
    let at = c.place.ensures.is in
    let there = place_inside n m some c.args.c i (omega arith) in
    let lt : place n m c.args.c i < length area = let e = c.requires.inside in let k = c.loop-i.auto.area in omega arith in (
      below_more _ _
          (λ k h. let ne : place n m c.args.c k ≢ c.place.result = λ e. let q = (place-apart n m some c.args.c k c.args.c i (omega arith) (omega arith) (e ∙ at)).1 in omega arith in
          get_or-set_other area c.place.result (place n m c.args.c k) _ 0 ne ∙ c.loop-i.invariant.0 k h)
          (ap (λ (j : ℕ). get_or (lib.ListN.set area c.place.result (get_or c.args.shares i 0)) j 0) (sym at) ∙ get_or-set_same area c.place.result _ 0 (omega arith)),
      λ k j h l. let ne : place n m k j ≢ c.place.result = λ e. h (place-apart n m some k j c.args.c i l (omega arith) (e ∙ at)).0 in
          get_or-set_other area c.place.result (place n m k j) _ 0 ne ∙ c.loop-i.invariant.1 k j h l,
    )

pub returns : goal.returns
returns g c =
    let n = c.args.n in
    let m = g.row.M in
    let long : length c.args.shares ≡ m = search rules in
    record {
      written = sym (shares-are n m c.loop-i.area c.args.c c.args.shares long (λ k h. sym (c.loop-i.invariant.0 k (omega arith))));
      others = λ k ne. shares-same n m c.args.area.now c.loop-i.area k (λ j l. c.loop-i.invariant.1 k j ne l);
    }
