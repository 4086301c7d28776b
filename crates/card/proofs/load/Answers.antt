use Rattle.std.proofs.Common.{ℕ, ◌<◌, replicate, sym, refl, ap, ◌∙◌, subst, arith}
use Rattle.ring.specs.Ring.{Residues}
use Rattle.keys.proofs.Publishing.{public_residues}
use Rattle.card.proofs.Ending.{load-done, load-ended}
use Rattle.card.proofs.load.Goals as goal

pub returns : goal.returns
returns g c =
    let some : 0 < g.S.ParamSet.params.p = let h = g.S.ParamSet.sound.k_below_p in omega arith in
    let d = rw (c.in_ok-count.ensures.count, c.new-secret.ensures) at c.load_counted-ending.ensures in
    let published = rw c.new-secret.ensures at c.publish.ensures in
    let t = load-done g.S.ParamSet.params c.args.shares c.args.secret.now c.args.public.now c.args.key.now c.in_ok-count.ensures.tests.0 c.load_counted-ending.result.0 _ _ d.holds c.in_default.is (c.new.ensures.0 ∙ c.in_ok-count.ensures.count) c.new.ensures.1 d.count published in
    record {
      loaded = t.0;
      value = t.1.value;
      residues = t.1.residues;
      public = subst (Residues g.S.ParamSet.params.p) (sym published) (public_residues g.S.ParamSet.params c.args.secret.now c.args.public.now some c.in_ok-count.ensures.tests.1.residues);
      loadable = c.in_ok-count.ensures.tests.1;
    }

pub returns-in-Err : goal.returns-in-Err
returns-in-Err g c =
    let d = rw (c.in_ok-count.ensures.count, c.new-secret.ensures) at c.load_counted-ending.ensures in
    let zeros = c.clear.ensures ∙ ap (λ (k : ℕ). replicate k 0) c.load_counted-ending.auto.key in
    record {
      loaded = load-ended g.S.ParamSet.params c.args.shares c.args.secret.now c.args.public.now c.args.key.now c.in_ok-count.ensures.tests.0 c.load_counted-ending.result.0 c.in-Err.mark d.holds c.in-Err.is zeros refl;
      value = tt;
      residues = tt;
      public = tt;
      loadable = tt;
    }
