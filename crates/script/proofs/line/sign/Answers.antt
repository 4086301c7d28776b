use Rattle.std.proofs.Common.{◌≡◌, ◌++◌, ℕ, List, codes, length, sym, subst}
use Rattle.std.proofs.lemmas.Result.{err_from_is_err_and}
use Rattle.std.specs.Str.Iter.{LacksByte}
use Rattle.script.specs.Answers.{NoneIs}
use Rattle.script.specs.Lines.{Calls}
use Rattle.script.specs.Words.{Number, Spells}
use Rattle.script.proofs.Heads.{no_sign, no_sign_word}
use Rattle.script.proofs.Passed.{refused, refused_judged}
use Rattle.script.proofs.line.sign.Goals as goal

pub returns-in_err-digest : goal.returns-in_err-digest
returns-in_err-digest c =
    let text = c.args.text.now in
    let line = codes "sign " ++ text in
    refused_judged (Calls line) (LacksByte 32 text) (NoneIs (Calls line)) c.in_err-digest.field-0.0 c.from_residual.result (err_from_is_err_and c.from_residual.result c.from_residual.ensures.1)
    (no_sign_word text) c.in_err-digest.ensures

pub returns-in_err-hex_32 : goal.returns-in_err-hex_32
returns-in_err-hex_32 c =
    let text = c.args.text.now in
    let digest = c.in_ok-digest.digest.now in
    let line = codes "sign " ++ text in
    refused (Calls line) ((bytes : List ℕ) → length bytes ≡ 32 → Spells c.as_bytes.result.now bytes → ⊥) (NoneIs (Calls line)) c.in_err-hex_32.field-0.0 c.from_residual-in_err-hex_32.result
    (err_from_is_err_and c.from_residual-in_err-hex_32.result c.from_residual-in_err-hex_32.ensures.1)
    (λ none. no_sign text digest _ c.in_ok-digest.ensures.0 c.in_ok-digest.ensures.1 (λ bytes n l s h. none bytes l (subst (λ (t : List ℕ). Spells t bytes) (sym c.as_bytes.ensures.value) s))) c.in_err-hex_32.ensures

pub returns-in_err-tries : goal.returns-in_err-tries
returns-in_err-tries c =
    let text = c.args.text.now in
    let digest = c.in_ok-digest.digest.now in
    let line = codes "sign " ++ text in
    refused_judged (Calls line) (NoneIs (Number 4294967295 c.in_ok-digest.tries.now)) (NoneIs (Calls line)) c.in_err-tries.field-0.0 c.from_residual-in_err-tries.result
    (err_from_is_err_and c.from_residual-in_err-tries.result c.from_residual-in_err-tries.ensures.1)
    (λ none. no_sign text digest _ c.in_ok-digest.ensures.0 c.in_ok-digest.ensures.1 (λ bytes n l s h. none n h)) c.in_err-tries.ensures
