use Rattle.std.proofs.Common.{◌≡◌, ◌++◌, ℕ, List, codes, length, sym, subst}
use Rattle.std.proofs.lemmas.Result.{err_from_is_err_and}
use Rattle.std.specs.Str.Iter.{LacksByte}
use Rattle.script.specs.Answers.{NoneIs}
use Rattle.script.specs.Lines.{Fills}
use Rattle.script.specs.Words.{Number, Spells}
use Rattle.script.specs.declared.command.Supply.{Supply}
use Rattle.script.proofs.Heads.{no_generator, no_seed_word}
use Rattle.script.proofs.Passed.{refused, refused_judged}
use Rattle.script.proofs.line.generator.Goals as goal

pub returns-in_err-seed : goal.returns-in_err-seed
returns-in_err-seed c =
    let text = c.args.text.now in
    let fills : Supply → Type 0 = λ s. (name : List ℕ) → Fills name (name ++ (codes " generator " ++ text)) s in
    let none : Type 0 = (name : List ℕ) → NoneIs (Fills name (name ++ (codes " generator " ++ text))) in
    refused_judged fills (LacksByte 32 text) none c.in_err-seed.field-0.0 c.from_residual.result (err_from_is_err_and c.from_residual.result c.from_residual.ensures.1)
    (no_seed_word text) c.in_err-seed.ensures

pub returns-in_err-hex_32 : goal.returns-in_err-hex_32
returns-in_err-hex_32 c =
    let text = c.args.text.now in
    let fills : Supply → Type 0 = λ s. (name : List ℕ) → Fills name (name ++ (codes " generator " ++ text)) s in
    let none : Type 0 = (name : List ℕ) → NoneIs (Fills name (name ++ (codes " generator " ++ text))) in
    refused fills ((bytes : List ℕ) → length bytes ≡ 32 → Spells c.as_bytes.result.now bytes → ⊥) none c.in_err-hex_32.field-0.0 c.from_residual-in_err-hex_32.result
    (err_from_is_err_and c.from_residual-in_err-hex_32.result c.from_residual-in_err-hex_32.ensures.1)
    (λ h. no_generator text c.in_ok-seed.seed.now _ c.in_ok-seed.ensures.0 c.in_ok-seed.ensures.1 (λ bytes n l s d. h bytes l (subst (λ (t : List ℕ). Spells t bytes) (sym c.as_bytes.ensures.value) s))) c.in_err-hex_32.ensures

pub returns-in_err-count : goal.returns-in_err-count
returns-in_err-count c =
    let text = c.args.text.now in
    let fills : Supply → Type 0 = λ s. (name : List ℕ) → Fills name (name ++ (codes " generator " ++ text)) s in
    let none : Type 0 = (name : List ℕ) → NoneIs (Fills name (name ++ (codes " generator " ++ text))) in
    refused_judged fills (NoneIs (Number 18446744073709551615 c.in_ok-seed.count.now)) none c.in_err-count.field-0.0 c.from_residual-in_err-count.result
    (err_from_is_err_and c.from_residual-in_err-count.result c.from_residual-in_err-count.ensures.1)
    (λ h. no_generator text c.in_ok-seed.seed.now _ c.in_ok-seed.ensures.0 c.in_ok-seed.ensures.1 (λ bytes n l s d. h n d)) c.in_err-count.ensures
