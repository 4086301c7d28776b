use Rattle.std.proofs.Common.{◌≡◌, ℕ, List, Option, Bor, codes, sym, subst, arith, rules}
use Rattle.std.proofs.lemmas.Result.{err_from_is_err_and}
use Rattle.std.specs.Str.Iter.{LacksByte}
use Rattle.script.specs.Answers.{NoneIs}
use Rattle.script.specs.Lines.{Asks, Calls, spaced}
use Rattle.script.specs.Words.{Number}
use Rattle.script.proofs.Heads.{no_count_word, no_repeat}
use Rattle.script.proofs.Passed.{refused, refused_judged}
use Rattle.script.proofs.line.repeat.Goals as goal

pub returns-in_err-count : goal.returns-in_err-count
returns-in_err-count c =
    let line = spaced (codes "repeat") c.args.rest in
    refused_judged (Asks line) (LacksByte 32 c.in_ok-ok_or.field-0.now) (NoneIs (Asks line)) c.in_err-count.field-0.0 c.from_residual-in_err-count.result (err_from_is_err_and c.from_residual-in_err-count.result c.from_residual-in_err-count.ensures.1)
    (λ lacks. subst (λ (o : Option (Bor (List ℕ))). NoneIs (Asks (spaced (codes "repeat") o))) (sym c.in_ok-ok_or.ensures.ok_part) (no_count_word c.in_ok-ok_or.field-0.now lacks)) c.in_err-count.ensures

pub returns-in_err-times : goal.returns-in_err-times
returns-in_err-times c =
    let line = spaced (codes "repeat") c.args.rest in
    refused_judged (Asks line) (NoneIs (Number 4294967295 c.in_ok-count.count.now)) (NoneIs (Asks line)) c.in_err-times.field-0.0 c.from_residual-in_err-times.result (err_from_is_err_and c.from_residual-in_err-times.result c.from_residual-in_err-times.ensures.1)
    (λ none. subst (λ (o : Option (Bor (List ℕ))). NoneIs (Asks (spaced (codes "repeat") o))) (sym c.in_ok-ok_or.ensures.ok_part) (no_repeat c.in_ok-ok_or.field-0.now _ _ c.in_ok-count.ensures.0 c.in_ok-count.ensures.1 (λ times call n some l. none times n))) c.in_err-times.ensures

pub returns-in_err-call-in_default : goal.returns-in_err-call-in_default
returns-in_err-call-in_default c =
    let line = spaced (codes "repeat") c.args.rest in
    refused (Asks line) (NoneIs (Calls c.in_ok-count.line.now)) (NoneIs (Asks line)) c.in_err-call-in_default.field-0.0 c.from_residual-in_err-call-in_default.result
    (err_from_is_err_and c.from_residual-in_err-call-in_default.result c.from_residual-in_err-call-in_default.ensures.1)
    (λ none. subst (λ (o : Option (Bor (List ℕ))). NoneIs (Asks (spaced (codes "repeat") o))) (sym c.in_ok-ok_or.ensures.ok_part) (no_repeat c.in_ok-ok_or.field-0.now _ _ c.in_ok-count.ensures.0 c.in_ok-count.ensures.1 (λ times call n some l. none call l))) c.in_err-call-in_default.ensures

pub returns-in-0 : goal.returns-in-0
returns-in-0 c =
    let zero : c.in_ok-times.times ≡ 0 = search rules in
    let is = c.in_ok-times.ensures.1 in
    subst (λ (o : Option (Bor (List ℕ))). NoneIs (Asks (spaced (codes "repeat") o))) (sym c.in_ok-ok_or.ensures.ok_part)
    (no_repeat c.in_ok-ok_or.field-0.now _ _ c.in_ok-count.ensures.0 c.in_ok-count.ensures.1 (λ times call n some l. let same = n.1 in omega arith))
