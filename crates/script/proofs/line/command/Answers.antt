use Rattle.std.proofs.Common.{◌≡◌, ℕ, List, None, codes, sym, subst, ap₂, ◌∙◌, refl, rules}
use Rattle.std.proofs.lemmas.Result.{err_from_is_err_and}
use Rattle.script.specs.Answers.{NoneIs}
use Rattle.script.specs.Lines.{Asks, Quiet, Says, spaced}
use Rattle.script.proofs.Heads.{no_command, no_set_alone}
use Rattle.script.proofs.Passed.{refused}
use Rattle.script.proofs.line.command.Goals as goal
use Rattle.script.proofs.line.command.Goals.{in_default-via-in-set-0+in_default, in_default-via-in_default}

pub returns-in_err-action-in_default : goal.returns-in_err-action-in_default
returns-in_err-action-in_default c =
    let text = c.args.text.now in
    let word = c.first_word.result.0.now in
    let rest = c.first_word.result.1 in
    let none : (line : List ℕ) → spaced word rest ≡ line → NoneIs (Says line) → NoneIs (Says text) = λ line e n. subst (λ (t : List ℕ). NoneIs (Says t)) (sym (c.first_word.ensures.parts ∙ e)) n in
    refused (Says text) (NoneIs (Asks text)) (NoneIs (Says text)) c.in_err-action-in_default.field-0.0 c.from_residual.result (err_from_is_err_and c.from_residual.result c.from_residual.ensures.1)
    (λ asks.
    elim c.in_default.branch [
      | in_default-via-in-set-0+in_default w ↦ (let e : rest ≡ None = search rules in none (codes "set") (ap₂ spaced w.in_default.is-set-0 e) no_set_alone)
      | in_default-via-in_default w ↦ none (spaced word rest) refl
          (no_command word rest c.first_word.ensures.solid (search rules) (subst (λ (t : List ℕ). Quiet t → ⊥) c.first_word.ensures.parts c.requires) (subst (λ (t : List ℕ). NoneIs (Asks t)) c.first_word.ensures.parts asks))
    ])
    c.in_err-action-in_default.ensures
