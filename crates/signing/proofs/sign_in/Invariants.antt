use Rattle.std.proofs.Common.{◌≡◌}
use Rattle.std.specs.NonZero.{non_zero_u32_get}
use Rattle.attempt.specs.Attempt.{signs}
use Rattle.signing.proofs.Going.{Going}
use Rattle.signing.proofs.sign_in.Given as goal

abbrev pub invariant-attempts : goal.invariant-attempts
invariant-attempts g l =
    let s = g.S.ParamSet.params in
    (l.record ≡ l.initial.record)
    × Going s g.row.M (signs s g.row.M l.subject) (non_zero_u32_get l.fn.tries) (g.N.Source.flow l.initial.nonces) (g.W.Source.flow l.initial.masks) l.number (g.N.Source.flow l.nonces) (g.W.Source.flow l.masks)
