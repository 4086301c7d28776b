use Rattle.std.proofs.Common.{ℕ, eqb, ap, ◌∙◌, arith}
use Rattle.std.proofs.lemmas.Result.{err_from_is_err_and}
use Rattle.words.proofs.Spendings.{spent_then, spent_as, short_then, short_of}
use Rattle.response.proofs.Nearness.{bit_read}
use Rattle.response.proofs.check.Goals as goal

pub returns-in_err-shares : goal.returns-in_err-shares
returns-in_err-shares g c =
    let p = err_from_is_err_and c.from_residual.result c.from_residual.ensures.1 in
    rw (p.1, p.2) record { by = short_of c.in_err-shares.ensures.by (omega arith) }

pub returns-in_err-bit : goal.returns-in_err-bit
returns-in_err-bit g c =
    let p = err_from_is_err_and c.from_residual-in_err-bit.result c.from_residual-in_err-bit.ensures.1 in
    rw (p.1, p.2) record { by = short_of (short_then c.in_ok-shares.ensures.by.0 c.in_err-bit.ensures.by) (omega arith) }

pub returns : goal.returns
returns g c =
    let a = c.in_ok-shares.ensures.by in
    let b = c.in_ok-bit.ensures.by in
    record { by = (spent_as (spent_then a.0 b.0) (omega arith), ap (λ (v : ℕ). eqb v 1) (b.1 ∙ a.1) ∙ bit_read _) }
