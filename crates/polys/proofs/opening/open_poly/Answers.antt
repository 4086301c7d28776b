use Rattle.std.proofs.Common.{◌≡◌, ℕ, ◌*◌, ◌<◌, length, sym, ◌∙◌, subst, arith, rules}
use Rattle.std.proofs.lemmas.Result.{err_from_is_err_and}
use Rattle.ring.specs.Ring.{Residues}
use Rattle.shares.specs.Groups.{residue_rule}
use Rattle.shares.specs.Refresh.{pairs}
use Rattle.shares.specs.Rule.{recombine}
use Rattle.polys.specs.Area.{shares_of, values}
use Rattle.polys.proofs.Places.{values-residues}
use Rattle.polys.proofs.Filling.{filling-more, filling-all, filling-short}
use Rattle.polys.proofs.opening.open_poly.Goals as goal

pub coefficients-preserved : goal.coefficients-preserved
coefficients-preserved g c =
    let d = c.in_ok-coefficient.ensures.by in
    let h : c.coefficients.c < length c.coefficients.out = search rules in
    filling-more 0 _ _ _ c.coefficients.c c.coefficients.out _ _ _ h d.0 d.1 c.coefficients.invariant

pub returns-in_err-coefficient : goal.returns-in_err-coefficient
returns-in_err-coefficient g c =
    let p = err_from_is_err_and c.from_residual.result c.from_residual.ensures.1 in
    rw (p.1, p.2) record { opened = record { by = filling-short 0 _ _ _ g.S.ParamSet.params.n c.coefficients.c c.coefficients.out _ _ _ (omega arith) c.in_err-coefficient.ensures.by c.coefficients.invariant }; residues = tt }

pub returns : goal.returns
unfolding values
returns g c =
    let s = g.S.ParamSet.params in
    let r = c.args.r.area.now in
    let least = g.S.ParamSet.sound.n_least in
    let big : 1 < s.p = let h = g.S.ParamSet.sound.k_below_p in let a = g.S.ParamSet.sound.alpha_below_k in omega arith in
    let e : c.coefficients.c ≡ s.n = omega arith in
    let all = filling-all 0 (λ (k : ℕ). recombine (residue_rule s.p) (shares_of s.n g.row.M r k)) ((residue_rule s.p).cost * pairs g.row.M) (g.W.Source.flow c.args.masks.now) s.n c.coefficients.c c.coefficients.out (g.W.Source.flow c.coefficients.masks) e (c.coefficients.auto.out ∙ c.requires.out) c.coefficients.invariant in
    record {
      opened = record { by = all };
      residues = subst (Residues s.p) (sym all.1) (values-residues s g.row.M 1 s.n r (omega arith) big (omega arith) c.args.r.sized c.args.r.residues);
    }
