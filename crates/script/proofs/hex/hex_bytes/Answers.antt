use Rattle.std.proofs.Common.{◌≡◌, ◌/◌, [], length, refl, sym, ◌∙◌, arith, rules, below_more}
use Rattle.std.proofs.lemmas.Result.{err_from_is_err_and}
use Rattle.script.specs.declared.unread.Unread.TheVariants.{NotUnderstood}
use Rattle.script.proofs.Pairs.{pair_at}
use Rattle.script.proofs.hex.hex_bytes.Goals as goal

pub returns-in_err-ok_or : goal.returns-in_err-ok_or
returns-in_err-ok_or c =
    let p = err_from_is_err_and c.from_residual.result c.from_residual.ensures.1 in
    let told = c.in_err-ok_or.ensures in
    let v = rw told.ok_part at told.value in
    let e : c.in_err-ok_or.field-0.0 ≡ NotUnderstood = cc in
    let two = pair_at c.args.word.now [] (length c.args.word.now / 2) c.pairs.digits-index (omega arith) (omega arith) in
    let none = rw (c.as_chunks.ensures.front, two) at c.pair.ensures.none in
    rw (p.1, p.2, e) (λ bytes h. none (sym told.variant) _ (h.pairs c.pairs.digits-index (omega (arith, h.sized))))

pub pairs-preserved : goal.pairs-preserved
pairs-preserved c =
    let two = pair_at c.args.word.now [] (length c.args.word.now / 2) c.pairs.digits-index (omega arith) (omega arith) in
    let new = rw (c.in_ok-ok_or.ensures.ok_part, c.as_chunks.ensures.front, two) at c.pair.ensures.value in
    let pushed = c.in_ok-push.ensures.by_index in (
      search rules,
      below_more _ _
          (λ k h. let old = c.pairs.invariant.1 k h in (old.0, old.1, pushed.0 k 0 (omega arith) ∙ old.2))
          (new.0, new.1, (rw c.pairs.invariant.0 at (pushed.1 0 refl)) ∙ new.2),
    )
