use Rattle.std.proofs.Common.{◌≡◌, ℕ, ◌+◌, ◌*◌, ◌<◌, get_or, take, drop, ap, ◌∙◌, ap₂, arith}
use Rattle.std.proofs.lemmas.List.{drop-drop, get_or-take}
use Rattle.record.proofs.reader.split_body.Goals as goal

pub returns : goal.returns
returns g c =
    let body = c.args.body.now in
    let front = c.in_ok-counter.ensures.cases in
    let digest = c.in_ok-digest.ensures.cases in
    let byte : (i : ℕ) → i < 2 → get_or c.in_ok-counter.counter.now i 0 ≡ get_or body i 0 = λ i l. ap (λ xs. get_or xs i 0) front.0 ∙ get_or-take 2 body i 0 l in
    let rest = digest.1 ∙ ap (drop 32) front.1 ∙ drop-drop 32 2 body in (
      c.from_le_bytes.ensures ∙ ap₂ (λ a b. a + b * 256) (byte 0 (omega arith)) (byte 1 (omega arith)),
      digest.0 ∙ ap (take 32) front.1,
      c.split_at.ensures.front ∙ ap₂ (λ k xs. take (4 * k) xs) c.degree.ensures rest,
      c.split_at.ensures.back ∙ ap₂ (λ k xs. drop (4 * k) xs) c.degree.ensures rest ∙ drop-drop (4 * g.S.ParamSet.params.n) 34 body,
    )
