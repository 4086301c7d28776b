use Rattle.std.proofs.Common.{◌≡◌, ℕ, ◌*◌, ◌<◌, ◌≢◌, List, [], length, take, sym, ap, ◌∙◌, subst, rules, arith, below_more}
use Rattle.refusal.specs.declared.fault.Coefficient.{Coefficient}
use Rattle.refusal.specs.declared.fault.Step.TheVariants.{Conversion}
use Rattle.steps.specs.declared.Ended.TheVariants.{Masks}
use Rattle.std.proofs.lemmas.Result.{err_from_is_err_and}
use Rattle.shares.specs.Rule.{Within, recombine}
use Rattle.shares.specs.Groups.{residue_rule}
use Rattle.polys.specs.Area.{shares_of, values, recombined}
use Rattle.polys.proofs.Places.{polynomial-inside, values-long, area-within}
use Rattle.plain.specs.Nonces.{candidate, coefficient}
use Rattle.plain.specs.Run.{at}
use Rattle.drawing.specs.Resume.{Stops}
use Rattle.drawing.specs.Drawing.{Drawing, halted}
use Rattle.drawing.specs.declared.halt.Halt.{Halt}
use Rattle.drawing.proofs.Mapping.{kept_ok, mapped_err}
use Rattle.drawing.proofs.Resuming.{drawing-none, drawing-refused, drawing-accepted, drawing-stops, short-of-conversion}
use Rattle.drawing.proofs.Candidates.{values_none, values_more, judged-none, judged-some, tried_stops}
use Rattle.drawing.proofs.draw.Goals as goal

pub coefficients-init : goal.coefficients-init
coefficients-init g c =
    let s = g.S.ParamSet.params in
    let n = g.N.Source.flow c.args.nonces.now in
    let f = g.W.Source.flow c.args.masks.now in
    (λ u. subst (λ (y : List ℕ). Drawing s g.row.M u y n n f f) (sym (values_none s g.row.M c.args.y.now)) (drawing-none s g.row.M c.requires.some u n f), λ k h. absurd (omega arith))

pub candidates-preserved : goal.candidates-preserved
candidates-preserved g c =
    let s = g.S.ParamSet.params in
    let i = c.coefficients.i in
    let long = values-long s g.row.M i c.coefficients.y in
    let end = c.coefficients-i-end.ensures in
    let wants : length (values s g.row.M i c.coefficients.y) < 2 * s.n = omega (arith, c.coefficients-test.true) in
    let d = (rw c.in-Ok-None.field-0-is at c.in-Ok-None.ensures).by in
    let above = judged-none s g.row.M _ _ (g.N.Source.flow c.candidates.nonces).words c.candidate_bits-bits.ensures.is c.candidate_limit-limit.ensures d.2 in
    λ u n f h. drawing-refused s g.row.M c.requires.some u wants (c.candidates.invariant u n f h) d.0 d.1 above

pub scatter-requires : goal.scatter-requires
scatter-requires g c =
    let s = g.S.ParamSet.params in
    let most = c.requires.most in
    let least = g.S.ParamSet.sound.n_least in
    let top = g.S.ParamSet.sound.n_most in
    let n = c.degree-n.ensures in
    let end = c.coefficients-i-end.ensures in
    (omega arith, ((omega arith, (omega arith, most)), polynomial-inside c.degree-n.result g.row.M (omega arith) 2 c.coefficients.i c.coefficients.y (omega (arith, c.coefficients-test.true)) (c.coefficients.auto.y ∙ c.requires.sized ∙ ap (λ (k : ℕ). 2 * g.row.M * k) (sym n))))

pub coefficients-preserved : goal.coefficients-preserved
coefficients-preserved g c =
    let s = g.S.ParamSet.params in
    let i = c.coefficients.i in
    let y = c.coefficients.y in
    let y' = c.scatter.new.area in
    let long = values-long s g.row.M i y in
    let end = c.coefficients-i-end.ensures in
    let wants : length (values s g.row.M i y) < 2 * s.n = omega (arith, c.coefficients-test.true) in
    let d = (rw c.in-Ok-Some.field-0-is at c.in-Ok-Some.ensures).by in
    let ws = (g.N.Source.flow c.candidates.nonces).words in
    let x = judged-some s g.row.M _ _ ws c.candidate_bits-bits.ensures.is c.candidate_limit-limit.ensures c.in-Ok-Some.x d.2 in
    let v = (rw (kept_ok c.convert.result _ c.map_err.ensures.cases c.in_ok-shares.was) at c.convert.ensures).by in
    let p = residue_rule s.p in
    let written : shares_of s.n g.row.M y' i ≡ c.in_ok-shares.shares = ap (λ (n : ℕ). shares_of n g.row.M y' i) (sym c.degree-n.ensures) ∙ c.scatter.ensures.written in
    let others : (k : ℕ) → k ≢ i → shares_of s.n g.row.M y' k ≡ shares_of s.n g.row.M y k = λ k ne. subst (λ (n : ℕ). shares_of n g.row.M y' k ≡ shares_of n g.row.M y k) c.degree-n.ensures (c.scatter.ensures.others k ne) in
    let is : coefficient s (candidate s (take g.row.M ws)) ≡ recombine p (shares_of s.n g.row.M y' i) = sym (ap (recombine p) written ∙ v.1.1 ∙ ap (coefficient s) x.1) in (
      λ u. subst (λ (t : List ℕ). Drawing s g.row.M u t (g.N.Source.flow c.args.nonces.now) (g.N.Source.flow c.candidate.new.nonces) (g.W.Source.flow c.args.masks.now) (g.W.Source.flow c.convert.new.masks))
          (values_more s g.row.M i (coefficient s (candidate s (take g.row.M ws))) y y' is others)
          (drawing-accepted s g.row.M c.requires.some u wants (c.candidates.invariant u _ _ (c.coefficients.invariant.0 u)) d.0 d.1 x.0 v.0),
      below_more (λ k. Within p (shares_of s.n g.row.M y' k)) i
          (λ k h. let ne : k ≢ i = omega arith in subst (Within p) (sym (others k ne)) (c.coefficients.invariant.1 k h))
          (subst (Within p) (sym written) v.1.0),
    )

pub returns-in-Err : goal.returns-in-Err
returns-in-Err g c =
    let s = g.S.ParamSet.params in
    let i = c.coefficients.i in
    let y = values s g.row.M i c.coefficients.y in
    let long = values-long s g.row.M i c.coefficients.y in
    let end = c.coefficients-i-end.ensures in
    let wants : length y < 2 * s.n = omega (arith, c.coefficients-test.true) in
    record {
      drawn = λ u. record { by = tried_stops s g.row.M c.candidate_bits-bits.result c.candidate_limit-limit.result.value c.requires.some u y c.in-Err.ended c.at-place.result _ _ _ _ _ _ wants (c.at-place.ensures ∙ ap (at s) (sym long)) (c.candidates.invariant u _ _ (c.coefficients.invariant.0 u)) c.in-Err.ensures.by };
      residues = tt;
    }

pub returns-in_err-shares-clause-drawn : goal.returns-in_err-shares-clause-drawn
returns-in_err-shares-clause-drawn g c =
    let s = g.S.ParamSet.params in
    let i = c.coefficients.i in
    let y = values s g.row.M i c.coefficients.y in
    let long = values-long s g.row.M i c.coefficients.y in
    let end = c.coefficients-i-end.ensures in
    let wants : length y < 2 * s.n = omega (arith, c.coefficients-test.true) in
    let d = (rw c.in-Ok-Some.field-0-is at c.in-Ok-Some.ensures).by in
    let ws = (g.N.Source.flow c.candidates.nonces).words in
    let x = judged-some s g.row.M _ _ ws c.candidate_bits-bits.ensures.is c.candidate_limit-limit.ensures c.in-Ok-Some.x d.2 in
    let n₀ = g.N.Source.flow c.args.nonces.now in
    let n₂ = g.N.Source.flow c.candidate.new.nonces in
    let f₀ = g.W.Source.flow c.args.masks.now in
    let f₃ = g.W.Source.flow c.convert.new.masks in
    let p = mapped_err c.convert.result _ c.map_err.ensures.cases c.in_err-shares.was in
    let here : c.in_err-shares.field-0.0 ≡ record { ended = Masks p.0; step = Conversion c.at-place.result } = search rules in
    let told = here ∙ ap (λ (q : Coefficient). record { ended = Masks p.0; step = Conversion q }) (c.at-place.ensures ∙ ap (at s) (sym long)) in
    let short = (rw p.1 at c.convert.ensures).by in
    let q = err_from_is_err_and c.from_residual.result c.from_residual.ensures.1 in
    λ u.
    let D = c.candidates.invariant u _ _ (c.coefficients.invariant.0 u) in
    rw (q.1, q.2) (record {
      by = subst (λ (h : Halt). Stops s g.row.M u [] [] (halted h) n₀ n₂ f₀ f₃) (sym told)
          (drawing-stops s g.row.M c.requires.some u D (short-of-conversion s g.row.M c.requires.some u D.words y _ _ _ wants d.0 _ d.1 x.0 short));
    })

pub returns-after-coefficients : goal.returns-after-coefficients
unfolding recombined
returns-after-coefficients g c =
    let s = g.S.ParamSet.params in
    let i = c.coefficients.i in
    let y = c.coefficients.y in
    let least = g.S.ParamSet.sound.n_least in
    let e : i ≡ 2 * s.n = let t = c.coefficients-test.false in let k = c.coefficients.auto.i-end in omega (arith, c.coefficients-i-end.ensures) in
    record {
      drawn = λ u. record { by = subst (λ (k : ℕ). Drawing s g.row.M u (values s g.row.M k y) (g.N.Source.flow c.args.nonces.now) (g.N.Source.flow c.coefficients.nonces) (g.W.Source.flow c.args.masks.now) (g.W.Source.flow c.coefficients.masks)) e (c.coefficients.invariant.0 u) };
      residues = area-within s.n g.row.M 2 s.p y (omega arith) (c.coefficients.auto.y ∙ c.requires.sized) (λ k h. c.coefficients.invariant.1 k (omega arith));
    }
