use Rattle.std.proofs.Common.{◌≡◌, ◌∷◌, ◌++◌, ℕ, List, None, codes, sym, subst, ap, ap₂, ◌∙◌, refl, rules}
use Rattle.std.proofs.lemmas.Result.{err_from_is_err_and}
use Rattle.script.specs.Answers.{NoneIs, Reads}
use Rattle.script.specs.Lines.{Fills, Listed, Valued, spaced}
use Rattle.script.specs.Words.{Number}
use Rattle.script.specs.declared.command.Supply.{Supply}
use Rattle.script.proofs.Heads.{no_generator_alone, no_health, no_supply, no_tape}
use Rattle.script.proofs.Passed.{refused, refused_judged}
use Rattle.script.proofs.Split.{spaced_under}
use Rattle.script.proofs.line.supply.Goals as goal
use Rattle.script.proofs.line.supply.Goals.{in_default-via-in-generator-0+in_default, in_default-via-in_default}

-- what a text says that a word source becomes, and that it says nothing
abbrev FillsAs : List ℕ → Supply → Type 0
FillsAs text s = (name : List ℕ) → Fills name (name ++ (32 ∷ text)) s

abbrev NoFill : List ℕ → Type 0
NoFill text = (name : List ℕ) → NoneIs (Fills name (name ++ (32 ∷ text)))

pub returns-in-generator-Some : goal.returns-in-generator-Some
returns-in-generator-Some c =
    let e = c.first_word.ensures.parts ∙ ap₂ spaced c.in-generator-Some.is-generator-0 c.in-generator-Some.is-1 in
    subst (λ (t : List ℕ). Reads (FillsAs t) (NoFill t) c.generator.result) (sym e) c.generator.ensures

pub returns-in_ok-one-in-health-default : goal.returns-in_ok-one-in-health-default
returns-in_ok-one-in-health-default c name = rw (c.first_word.ensures.parts, c.in-health-default.is-health-0, spaced_under) (c.in_ok-one-in-health-default.ensures (name ++ codes " health"))

pub returns-in_err-listed-in-tape-default : goal.returns-in_err-listed-in-tape-default
returns-in_err-listed-in-tape-default c =
    let text = c.args.text.now in
    let rest = c.first_word.result.1 in
    refused (FillsAs text) ((name : List ℕ) → NoneIs (Listed (Number 4294967295) name (spaced name rest))) (NoFill text) c.in_err-listed-in-tape-default.field-0.0 c.from_residual.result (err_from_is_err_and c.from_residual.result c.from_residual.ensures.1)
    (no_tape text rest (c.first_word.ensures.parts ∙ ap (λ (w : List ℕ). spaced w rest) c.in-tape-default.is-tape-0)) c.in_err-listed-in-tape-default.ensures

pub returns-in_err-one-in-health-default : goal.returns-in_err-one-in-health-default
returns-in_err-one-in-health-default c =
    let text = c.args.text.now in
    let rest = c.first_word.result.1 in
    refused_judged (FillsAs text) ((name : List ℕ) → NoneIs (Valued (Number 4294967295) name (spaced name rest))) (NoFill text) c.in_err-one-in-health-default.field-0.0 c.from_residual-in_err-one-in-health-default.result
    (err_from_is_err_and c.from_residual-in_err-one-in-health-default.result c.from_residual-in_err-one-in-health-default.ensures.1)
    (no_health text rest (c.first_word.ensures.parts ∙ ap (λ (w : List ℕ). spaced w rest) c.in-health-default.is-health-0)) c.in_err-one-in-health-default.ensures

pub returns-in_default : goal.returns-in_default
returns-in_default c =
    let word = c.first_word.result.0.now in
    let rest = c.first_word.result.1 in
    let none : (text : List ℕ) → spaced word rest ≡ text → NoFill text → NoFill c.args.text.now = λ text e n. subst NoFill (sym (c.first_word.ensures.parts ∙ e)) n in
    elim c.in_default.branch [
      | in_default-via-in-generator-0+in_default w ↦ (let e : rest ≡ None = search rules in none (codes "generator") (ap₂ spaced w.in_default.is-generator-0 e) no_generator_alone)
      | in_default-via-in_default w ↦ none (spaced word rest) refl (no_supply word rest c.first_word.ensures.solid (search rules) (search rules) (search rules))
    ]
