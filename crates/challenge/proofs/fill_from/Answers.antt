use Rattle.std.proofs.Common.{◌≡◌, ℕ, ◌+◌, ◌*◌, ◌%◌, ◌<◌, List, get_or, drop, set, sym, ap, ◌∙◌, subst, ap₂, arith}
use Rattle.challenge.proofs.Filling.{all_found, all_read, position-free, position-taken}
use Rattle.challenge.proofs.fill_from.Goals as goal
use Rattle.challenge.proofs.fill_from.Goals.{then-is_free, else-is_free}
use Rattle.challenge.specs.Challenge.{filled, place, stream, unit}
use Rattle.challenge.specs.declared.Sign.{Sign}
use Rattle.std.proofs.lemmas.Bool.{eqb-false, eqb-true}
use Rattle.shake.specs.Progress.{Reading}

pub words-preserved : goal.words-preserved
words-preserved g c m a =
    let s = g.S.ParamSet.params in
    let j = c.words.counter in
    let before = c.words.invariant m a in
    let read = c.next_u16.ensures m (2 * j) before.0 in
    let P : ℕ → Type 0 = λ i. Reading m i c.next_u16.new.self in
    let some : 0 < c.words.wanted = omega arith in
    let word = c.next_u16.result in
    let at : c.place-position.result.0 ≡ word % s.n = ap (λ (q : ℕ × Sign). q.0) c.place-position.ensures in
    let sign : c.place-position.result.1 ≡ (place s.n word).1 = ap (λ (q : ℕ × Sign). q.1) c.place-position.ensures in (
      subst P (omega arith) read.1,
      elim c.if-is_free.branch [
        | then-is_free w ↦
            let free : get_or c.words.c (word % s.n) 0 ≡ 0 = ap (λ (i : ℕ). get_or c.words.c i 0) (sym at) ∙ eqb-true _ 0 (sym c.is_free.ensures ∙ w.if-is_free.true) in
            let step = position-free s c.words.wanted j word m c.words.c some c.words-test.true read.0 free in
            let value = w.unit.ensures ∙ ap (unit s.p) sign in
            ap₂ (λ (k : ℕ) (xs : List ℕ). filled s k (drop (j + 1) (stream m)) xs) w.wanted-is (w.c-is ∙ ap₂ (λ (i v : ℕ). set c.words.c i v) at value) ∙ step ∙ before.1
        | else-is_free w ↦
            let taken = position-taken s c.words.wanted j word m c.words.c some c.words-test.true read.0 (λ e. eqb-false _ 0 (sym c.is_free.ensures ∙ w.if-is_free.false) (ap (λ (i : ℕ). get_or c.words.c i 0) at ∙ e)) in
            ap₂ (λ (k : ℕ) (xs : List ℕ). filled s k (drop (j + 1) (stream m)) xs) w.wanted-is w.c-is ∙ taken ∙ before.1
      ],
    )

pub returns-after-words : goal.returns-after-words
returns-after-words g c m a =
    let s = g.S.ParamSet.params in
    sym (all_read s c.words.wanted c.words.counter m c.words.c c.words-test.false) ∙ (c.words.invariant m a).1
    ∙ ap (λ (k : ℕ). filled s k (stream m) c.args.c.now) c.weight-wanted.ensures

pub returns-then-wanted-eq0 : goal.returns-then-wanted-eq0
returns-then-wanted-eq0 g c m a =
    let s = g.S.ParamSet.params in
    sym (all_found s c.words.wanted (drop c.words.counter (stream m)) c.words.c c.if-wanted-eq0.true) ∙ (c.words.invariant m a).1
    ∙ ap (λ (k : ℕ). filled s k (stream m) c.args.c.now) c.weight-wanted.ensures
