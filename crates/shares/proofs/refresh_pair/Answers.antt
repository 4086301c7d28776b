use Rattle.std.proofs.Common.{◌≡◌, ◌<◌, length, get_or, set, sym, ap, ◌∙◌, subst, arith, length-set, rules}
use Rattle.shares.specs.Rule.{recombine, Within}
use Rattle.shares.specs.Refresh.{masked}
use Rattle.shares.proofs.Pairs.{masked-value, masked-within}
use Rattle.shares.proofs.refresh_pair.Goals as goal

pub returns : goal.returns
returns g c =
    let u = g.G.Group.rule in
    let laws = g.G.Group.laws in
    let xs = c.args.shares.now in
    let i = c.args.i in
    let j = c.args.j in
    let hx : length xs ≡ g.row.M = search rules in
    let ins : j < length xs = omega arith in
    let r = c.in_ok-mask.mask in
    let m = c.in_ok-mask.ensures.by in
    let e : set (set xs i c.join-a.result) j c.join-b.result ≡ masked u i j r xs = cc in
    record {
      spends = record { by = (m.0, tt) };
      shares = e ∙ ap (λ v. masked u i j v xs) m.1.1;
      long = ap length e ∙ length-set (set xs i (u.op (get_or xs i 0) r)) j (u.op (get_or xs j 0) (u.inverse r)) ∙ length-set xs i (u.op (get_or xs i 0) r);
      within = subst (Within u) (sym e) (masked-within u laws xs i j r c.requires.rising ins m.1.0 c.requires.within);
      same = ap (recombine u) e ∙ masked-value u laws xs i j r c.requires.rising ins m.1.0 c.requires.within;
    }
