use Rattle.std.proofs.Common.{◌≡◌, ℕ, ◌-◌, take, replicate, Err, ap, ◌∙◌, rules, arith}
use Rattle.std.proofs.lemmas.Result.{err_from_is_err_and}
use Rattle.drawing.proofs.Mapping.{kept_ok, mapped_err}
use Rattle.card.specs.Sign.{answer_of, outcome_in}
use Rattle.card.proofs.Signings.{ran-signed, ran-failed}
use Rattle.card.proofs.state.Card.sign.Goals as goal

pub returns-in_err-map_err-clause-signed : goal.returns-in_err-map_err-clause-signed
returns-in_err-map_err-clause-signed g c =
    let s = g.S.ParamSet.params in
    let t = c.in_ok-tries.ensures.tests in
    let tries = c.in_ok-tries.ensures.tries in
    let card = c.args.self.now in
    let public = c.args.public.now in
    let run = c.sign_counted-ending in
    let a : c.new.result.words.now ≡ take s.n public = c.new.ensures ∙ ap (λ (n : ℕ). take n public) (let d = c.degree.ensures in let e : c.degree.result - 0 ≡ s.n = omega arith in e) in
    let zeroed = c.drop-guard.ensures ∙ ap (λ (k : ℕ). replicate k 0) run.auto.work in
    let p = mapped_err run.result.0 _ c.map_err.ensures.cases c.in_err-map_err.was in
    let told : Err c.in_err-map_err.field-0.0 ≡ answer_of (outcome_in p.0) run.result.1 = search rules in
    let q = err_from_is_err_and c.from_residual-in_err-map_err.result c.from_residual-in_err-map_err.ensures.1 in
    rw (q.1, q.2, t.0) (ran-failed s g.S.ParamSet.sound card.shares.count card.shares.some c.args.digest.now card.counter c.args.tries t.1.some_tries c.args.key.now public _ _ _ _ _ _ _ _ zeroed p.0 _ _ told (rw (a, tries, p.1) at run.ensures.follows) (rw (a, tries) at run.ensures.counts))

pub returns-clause-signed : goal.returns-clause-signed
returns-clause-signed g c =
    let s = g.S.ParamSet.params in
    let t = c.in_ok-tries.ensures.tests in
    let tries = c.in_ok-tries.ensures.tries in
    let card = c.args.self.now in
    let public = c.args.public.now in
    let run = c.sign_counted-ending in
    let a : c.new.result.words.now ≡ take s.n public = c.new.ensures ∙ ap (λ (n : ℕ). take n public) (let d = c.degree.ensures in let e : c.degree.result - 0 ≡ s.n = omega arith in e) in
    let zeroed = c.drop-guard-2.ensures ∙ ap (λ (k : ℕ). replicate k 0) run.auto.work in
    let k = kept_ok run.result.0 _ c.map_err.ensures.cases c.in_ok-map_err.was in
    rw t.0 (ran-signed s g.S.ParamSet.sound card.shares.count card.shares.some c.args.digest.now card.counter c.args.tries t.1.some_tries c.args.key.now public _ _ _ _ _ _ _ _ zeroed c.in_ok-map_err.field-0 _ (rw (a, tries, k) at run.ensures.follows) (rw (a, tries) at run.ensures.counts))
