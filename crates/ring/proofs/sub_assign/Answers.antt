use Rattle.std.proofs.Common.{sym, ◌∙◌, subst, arith}
use Rattle.ring.specs.Ring.{Residues}
use Rattle.ring.proofs.Polynomials.{minus-residues, minus-complement}
use Rattle.ring.proofs.Loops.{zipping_all}
use Rattle.ring.proofs.sub_assign.Goals as goal

pub returns : goal.returns
returns g c =
    let p = g.S.ParamSet.params.p in
    let value = zipping_all _ c.args.acc.now c.args.x.words.now c.loop-i.acc c.loop-i.i c.loop-i.invariant (omega arith) (omega arith) (omega arith)
    ∙ minus-complement p c.args.acc.now c.args.x.words.now c.args.x.proper.1 in
    record { value = value; residues = subst (Residues p) (sym value) (minus-residues p c.args.acc.now c.args.x.words.now (omega (arith, g.S.ParamSet.sound.k_below_p))) }
