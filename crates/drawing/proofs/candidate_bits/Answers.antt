use Rattle.std.proofs.Common.{sym, ◌∙◌, subst, arith}
use Rattle.plain.specs.Nonces.{LeastBits, bits, limit}
use Rattle.drawing.proofs.Widths.{width}
use Rattle.drawing.proofs.candidate_bits.Goals as goal

pub returns : goal.returns
unfolding bits
returns g c =
    let s = g.S.ParamSet.sound in
    let a = s.k_below_p in
    let b = s.p_small in
    let w = width (limit g.S.ParamSet.params) (omega arith) (omega arith) in
    rw c.candidate_limit.ensures (record { is = w.1 ∙ sym w.2; least = subst (LeastBits (limit g.S.ParamSet.params)) (sym w.1) w.3; few = omega (arith, w.1, w.4) })
