use Rattle.std.proofs.Common.{◌≡◌, ℕ, List, codes, sym, subst, ap, ◌∙◌, refl, rules}
use Rattle.std.proofs.lemmas.Result.{err_from_is_err_and}
use Rattle.script.specs.Answers.{NoneIs}
use Rattle.script.specs.Lines.{Asks, Calls, Listed, Valued, spaced}
use Rattle.script.specs.Words.{Integer, Number}
use Rattle.script.proofs.Heads.{Others, no_a, no_action, no_load_more, no_room, no_secret, no_shares, no_t, no_work}
use Rattle.script.proofs.Passed.{refused, refused_judged}
use Rattle.script.proofs.line.action.Goals as goal
use Rattle.script.proofs.line.action.Goals.{in_default-via-in-load-0+in_default, in_default-via-in_default}

pub returns-in_err-listed-in-a-default : goal.returns-in_err-listed-in-a-default
returns-in_err-listed-in-a-default c =
    let text = c.args.text.now in
    let rest = c.first_word.result.1 in
    let e : text ≡ spaced (codes "a") rest = c.first_word.ensures.parts ∙ ap (λ (w : List ℕ). spaced w rest) c.in-a-default.is-a-0 in
    refused (Asks text) ((name : List ℕ) → NoneIs (Listed (Number 4294967295) name (spaced name rest))) (NoneIs (Asks text)) c.in_err-listed-in-a-default.field-0.0 c.from_residual.result (err_from_is_err_and c.from_residual.result c.from_residual.ensures.1)
    (λ none. subst (λ (t : List ℕ). NoneIs (Asks t)) (sym e) (no_a rest (none (codes "a")))) c.in_err-listed-in-a-default.ensures

pub returns-in_err-listed-in-t-default : goal.returns-in_err-listed-in-t-default
returns-in_err-listed-in-t-default c =
    let text = c.args.text.now in
    let rest = c.first_word.result.1 in
    let e : text ≡ spaced (codes "t") rest = c.first_word.ensures.parts ∙ ap (λ (w : List ℕ). spaced w rest) c.in-t-default.is-t-0 in
    refused (Asks text) ((name : List ℕ) → NoneIs (Listed (Number 4294967295) name (spaced name rest))) (NoneIs (Asks text)) c.in_err-listed-in-t-default.field-0.0 c.from_residual-in_err-listed-in-t-default.result (err_from_is_err_and c.from_residual-in_err-listed-in-t-default.result c.from_residual-in_err-listed-in-t-default.ensures.1)
    (λ none. subst (λ (t : List ℕ). NoneIs (Asks t)) (sym e) (no_t rest (none (codes "t")))) c.in_err-listed-in-t-default.ensures

pub returns-in_err-listed-in-secret-default : goal.returns-in_err-listed-in-secret-default
returns-in_err-listed-in-secret-default c =
    let text = c.args.text.now in
    let rest = c.first_word.result.1 in
    let e : text ≡ spaced (codes "secret") rest = c.first_word.ensures.parts ∙ ap (λ (w : List ℕ). spaced w rest) c.in-secret-default.is-secret-0 in
    refused (Asks text) ((name : List ℕ) → NoneIs (Listed Integer name (spaced name rest))) (NoneIs (Asks text)) c.in_err-listed-in-secret-default.field-0.0 c.from_residual-in_err-listed-in-secret-default.result (err_from_is_err_and c.from_residual-in_err-listed-in-secret-default.result c.from_residual-in_err-listed-in-secret-default.ensures.1)
    (λ none. subst (λ (t : List ℕ). NoneIs (Asks t)) (sym e) (no_secret rest (none (codes "secret")))) c.in_err-listed-in-secret-default.ensures

pub returns-in_ok-one-in-shares-default : goal.returns-in_ok-one-in-shares-default
returns-in_ok-one-in-shares-default c = rw (c.first_word.ensures.parts, c.in-shares-default.is-shares-0) (c.in_ok-one-in-shares-default.ensures (codes "shares"))

pub returns-in_err-one-in-shares-default : goal.returns-in_err-one-in-shares-default
returns-in_err-one-in-shares-default c =
    let text = c.args.text.now in
    let rest = c.first_word.result.1 in
    let e : text ≡ spaced (codes "shares") rest = c.first_word.ensures.parts ∙ ap (λ (w : List ℕ). spaced w rest) c.in-shares-default.is-shares-0 in
    refused_judged (Asks text) ((name : List ℕ) → NoneIs (Valued (Number 255) name (spaced name rest))) (NoneIs (Asks text)) c.in_err-one-in-shares-default.field-0.0 c.from_residual-in_err-one-in-shares-default.result (err_from_is_err_and c.from_residual-in_err-one-in-shares-default.result c.from_residual-in_err-one-in-shares-default.ensures.1)
    (λ none. subst (λ (t : List ℕ). NoneIs (Asks t)) (sym e) (no_shares rest (none (codes "shares")))) c.in_err-one-in-shares-default.ensures

pub returns-in_ok-one-in-work-default : goal.returns-in_ok-one-in-work-default
returns-in_ok-one-in-work-default c = rw (c.first_word.ensures.parts, c.in-work-default.is-work-0) (c.in_ok-one-in-work-default.ensures (codes "work"))

pub returns-in_err-one-in-work-default : goal.returns-in_err-one-in-work-default
returns-in_err-one-in-work-default c =
    let text = c.args.text.now in
    let rest = c.first_word.result.1 in
    let e : text ≡ spaced (codes "work") rest = c.first_word.ensures.parts ∙ ap (λ (w : List ℕ). spaced w rest) c.in-work-default.is-work-0 in
    refused_judged (Asks text) ((name : List ℕ) → NoneIs (Valued (Number 4294967295) name (spaced name rest))) (NoneIs (Asks text)) c.in_err-one-in-work-default.field-0.0 c.from_residual-in_err-one-in-work-default.result (err_from_is_err_and c.from_residual-in_err-one-in-work-default.result c.from_residual-in_err-one-in-work-default.ensures.1)
    (λ none. subst (λ (t : List ℕ). NoneIs (Asks t)) (sym e) (no_work rest (none (codes "work")))) c.in_err-one-in-work-default.ensures

pub returns-in_ok-one-in-room-default : goal.returns-in_ok-one-in-room-default
returns-in_ok-one-in-room-default c = rw (c.first_word.ensures.parts, c.in-room-default.is-room-0) (c.in_ok-one-in-room-default.ensures (codes "room"))

pub returns-in_err-one-in-room-default : goal.returns-in_err-one-in-room-default
returns-in_err-one-in-room-default c =
    let text = c.args.text.now in
    let rest = c.first_word.result.1 in
    let e : text ≡ spaced (codes "room") rest = c.first_word.ensures.parts ∙ ap (λ (w : List ℕ). spaced w rest) c.in-room-default.is-room-0 in
    refused_judged (Asks text) ((name : List ℕ) → NoneIs (Valued (Number 4294967295) name (spaced name rest))) (NoneIs (Asks text)) c.in_err-one-in-room-default.field-0.0 c.from_residual-in_err-one-in-room-default.result (err_from_is_err_and c.from_residual-in_err-one-in-room-default.result c.from_residual-in_err-one-in-room-default.ensures.1)
    (λ none. subst (λ (t : List ℕ). NoneIs (Asks t)) (sym e) (no_room rest (none (codes "room")))) c.in_err-one-in-room-default.ensures

pub returns-in_err-call-in_default : goal.returns-in_err-call-in_default
returns-in_err-call-in_default c =
    let text = c.args.text.now in
    let word = c.first_word.result.0.now in
    let rest = c.first_word.result.1 in
    let none : (line : List ℕ) → spaced word rest ≡ line → NoneIs (Asks line) → NoneIs (Asks text) = λ line e n. subst (λ (t : List ℕ). NoneIs (Asks t)) (sym (c.first_word.ensures.parts ∙ e)) n in
    refused (Asks text) (NoneIs (Calls text)) (NoneIs (Asks text)) c.in_err-call-in_default.field-0.0 c.from_residual-in_err-call-in_default.result
    (err_from_is_err_and c.from_residual-in_err-call-in_default.result c.from_residual-in_err-call-in_default.ensures.1)
    (λ calls.
    elim c.in_default.branch [
      | in_default-via-in-load-0+in_default w ↦ none (spaced (codes "load") rest) (ap (λ (t : List ℕ). spaced t rest) w.in_default.is-load-0) (no_load_more rest (search rules))
      | in_default-via-in_default w ↦ (
          let others : Others word = record {
            load = search rules;
            a = search rules;
            t = search rules;
            secret = search rules;
            shares = search rules;
            nonces = search rules;
            masks = search rules;
            work = search rules;
            room = search rules;
            poke = search rules;
            show = search rules;
            till = search rules;
            repeat = search rules;
          } in
          none (spaced word rest) refl (no_action word rest c.first_word.ensures.solid others (subst (λ (t : List ℕ). NoneIs (Calls t)) c.first_word.ensures.parts calls)))
    ])
    c.in_err-call-in_default.ensures
