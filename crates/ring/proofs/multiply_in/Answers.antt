use Rattle.std.proofs.Common.{◌≡◌, ℕ, ◌+◌, ◌-◌, ◌*◌, ◌%◌, ◌<◌, List, length, get_or, sym, ◌∙◌, subst, ⊎_elim, ap₂, ◌≢◌, arith, rules}
use Rattle.std.proofs.lemmas.Bool.{cases_eq}
use Rattle.std.proofs.lemmas.List.{ext_get_or, get_or-set_same, get_or-set_other}
use Rattle.ring.specs.Long.{Turned, dot}
use Rattle.ring.specs.Ring.{product}
use Rattle.ring.proofs.Algebra.{length-product, product-residues}
use Rattle.ring.proofs.Loops.{met-long, met-place, turned-residues, coefficient-at}
use Rattle.ring.proofs.multiply_in.Goals as goal

pub new-met-requires : goal.new-met-requires
new-met-requires g c =
    let n = g.S.ParamSet.params.n in
    let p = g.S.ParamSet.params.p in
    let sound = g.S.ParamSet.sound in
    let b = c.args.b.now in
    let r = c.turn.new.out in
    let j = c.loop-j.j in
    let turned : Turned n p b r = subst (λ (ys : List ℕ). Turned n p ys r) c.new.ensures c.turn.ensures in
    let d = c.degree-n.result in
    let e = c.degree-n.ensures in
    let wide : length r ≡ 2 * n = search rules in
    let long = met-long n p b r turned c.requires.b.0 d j e (omega arith) wide in
    (long, λ k h. subst (λ (v : ℕ). v < p) (sym (met-place n p b r turned c.requires.b.0 d j k e (omega arith) (omega (arith, long)))) (turned-residues n p b r turned c.requires.b.0 (n - 1 - j + k) (omega arith) c.requires.b.1 (omega (arith, long))))

pub loop-j-preserved : goal.loop-j-preserved
loop-j-preserved g c =
    let n = g.S.ParamSet.params.n in
    let p = g.S.ParamSet.params.p in
    let a = c.args.a.now in
    let b = c.args.b.now in
    let r = c.turn.new.out in
    let j = c.loop-j.j in
    let less : j < n = omega (arith, c.requires.out) in
    let turned : Turned n p b r = subst (λ (ys : List ℕ). Turned n p ys r) c.new.ensures c.turn.ensures in
    let d = c.degree-n.result in
    let e = c.degree-n.ensures in
    let wide : length r ≡ 2 * n = search rules in
    let here : c.dot.result % c.modulus.result ≡ get_or (product p a b) j 0 =
    ap₂ (λ (s m : ℕ). s % m) (c.dot.ensures ∙ ap₂ dot c.new-in-loop-j.ensures c.new-met.ensures) c.modulus.ensures
    ∙ sym (coefficient-at n p b r turned c.requires.b.0 a _ j less c.requires.a.0 (met-long n p b r turned c.requires.b.0 d j e less wide) (λ k l. met-place n p b r turned c.requires.b.0 d j k e less l)) in
    λ k h.
    ⊎_elim
    (λ (same : k ≡ j). rw same (get_or-set_same c.loop-j.out j (c.dot.result % c.modulus.result) 0 (omega arith) ∙ here))
    (λ (other : k ≢ j). get_or-set_other c.loop-j.out j k (c.dot.result % c.modulus.result) 0 other ∙ c.loop-j.invariant k (omega arith))
    (cases_eq k j)

pub returns-clause-value : goal.returns-clause-value
returns-clause-value g c =
    let p = g.S.ParamSet.params.p in
    let long = length-product p c.args.a.now c.args.b.now in
    ext_get_or 0 c.loop-j.out (product p c.args.a.now c.args.b.now) (omega (arith, long, c.requires.out, c.requires.b.0)) (λ k h. c.loop-j.invariant k (omega arith))

pub returns-clause-residues : goal.returns-clause-residues
returns-clause-residues g c =
    let p = g.S.ParamSet.params.p in
    let a = c.args.a.now in
    let b = c.args.b.now in
    let sound = g.S.ParamSet.sound in
    let long = length-product p a b in
    λ k h. subst (λ (v : ℕ). v < p) (sym (c.loop-j.invariant k (omega arith))) (product-residues p a b (omega arith) k (omega (arith, long, c.requires.out, c.requires.b.0)))
