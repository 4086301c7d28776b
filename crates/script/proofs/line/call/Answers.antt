use Rattle.std.proofs.Common.{◌≡◌, List, ℕ, None, codes, sym, subst, ap, ◌∙◌, ap₂, refl, rules}
use Rattle.script.specs.Answers.{NoneIs}
use Rattle.script.specs.Lines.{Calls, spaced}
use Rattle.script.proofs.Heads.{no_call, no_remask_more, no_report_more, no_sign_alone}
use Rattle.script.proofs.line.call.Goals as goal
use Rattle.script.proofs.line.call.Goals.{in_default-via-in-sign-0+in-None, in_default-via-in-remask-0+in-Some, in_default-via-in-report-0+in-Some, in_default-via-in_default}

pub returns-in_default : goal.returns-in_default
returns-in_default c =
    let word = c.first_word.result.0.now in
    let rest = c.first_word.result.1 in
    let none : (line : List ℕ) → spaced word rest ≡ line → NoneIs (Calls line) → NoneIs (Calls c.args.text.now) = λ line e n. subst (λ (t : List ℕ). NoneIs (Calls t)) (sym (c.first_word.ensures.parts ∙ e)) n in
    elim c.in_default.branch [
      | in_default-via-in-sign-0+in-None w ↦ (let e : rest ≡ None = search rules in none (codes "sign") (ap₂ spaced w.in_default.is-sign-0 e) no_sign_alone)
      | in_default-via-in-remask-0+in-Some w ↦ none (spaced (codes "remask") rest) (ap (λ (t : List ℕ). spaced t rest) w.in_default.is-remask-0) (no_remask_more rest (search rules))
      | in_default-via-in-report-0+in-Some w ↦ none (spaced (codes "report") rest) (ap (λ (t : List ℕ). spaced t rest) w.in_default.is-report-0) (no_report_more rest (search rules))
      | in_default-via-in_default w ↦ none (spaced word rest) refl (no_call word rest c.first_word.ensures.solid w.in_default.not-check-0 (search rules) (search rules) (search rules))
    ]
