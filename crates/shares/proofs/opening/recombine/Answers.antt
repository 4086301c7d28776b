use Rattle.std.proofs.Common.{◌≡◌, ℕ, ◌+◌, length, sym, subst, arith, rules}
use Rattle.shares.proofs.Folding.{Left, left-all, left-more, left-none}
use Rattle.shares.proofs.opening.recombine.Goals as goal

pub loop-share-init : goal.loop-share-init
loop-share-init g c =
    let u = g.G.Group.rule in
    let laws = g.G.Group.laws in
    subst (λ (v : ℕ). Left u laws c.args.shares v 0) (sym c.unit-value.ensures) (left-none u laws c.args.shares c.requires.within)

pub loop-share-preserved : goal.loop-share-preserved
loop-share-preserved g c =
    let hx : length c.args.shares ≡ g.row.M = search rules in
    let u = g.G.Group.rule in
    let laws = g.G.Group.laws in
    subst (λ (v : ℕ). Left u laws c.args.shares v (c.loop-share.share-index + 1)) (sym c.join-value.ensures)
    (left-more u laws c.args.shares c.loop-share.value c.loop-share.share-index (omega arith) c.requires.within c.loop-share.invariant)

pub returns : goal.returns
returns g c =
    let hx : length c.args.shares ≡ g.row.M = search rules in
    left-all g.G.Group.rule g.G.Group.laws c.args.shares c.loop-share.value c.loop-share.share-index (omega arith) c.loop-share.invariant
