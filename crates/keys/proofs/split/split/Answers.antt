use Rattle.std.proofs.Common.{ℕ, ◌<◌, sym, subst}
use Rattle.shares.proofs.Pairs.{recombine-in}
use Rattle.keys.proofs.Splitting.{splits}
use Rattle.keys.proofs.split.split.Goals as goal

pub less-requires : goal.less-requires
less-requires g c =
    let u = g.G.Group.rule in
    let d = c.in_ok-shares.ensures.by.1 in
    (c.requires.value, subst (λ (v : ℕ). v < u.order) (sym c.recombine-sum.ensures) (recombine-in u g.G.Group.laws _ d.1))

pub returns : goal.returns
returns g c =
    let h = c.in_ok-shares.ensures.by in
    record {
      by = (
        h.0,
        splits _ g.row.M c.args.value c.less.result c.recombine-sum.result _ _ g.G.Group.laws c.requires.value h.1.0 h.1.1 c.recombine-sum.ensures c.less.ensures,
      );
    }
