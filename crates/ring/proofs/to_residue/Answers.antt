use Rattle.std.proofs.Common.{◌≡◌, ◌∙◌, ◌<◌, ap₂, pos, arith}
use Rattle.std.proofs.lemmas.Int.{ints}
use Rattle.std.specs.Int.{int_rem_euclid}
use Rattle.ring.specs.Ring.{residue}
use Rattle.ring.proofs.Centring.{rem_euclid_residue, residue_below}
use Rattle.ring.proofs.to_residue.Goals as goal

pub returns : goal.returns
returns g c =
    let p = g.S.ParamSet.params.p in
    let small = g.S.ParamSet.sound.p_small in
    let some : 0 < p = omega (arith, g.S.ParamSet.sound.k_below_p) in
    let is : c.rem_euclid.result ≡ pos (residue p c.args.z) = c.rem_euclid.ensures.value ∙ ap₂ int_rem_euclid (omega (arith, ints)) (omega (arith, ints)) ∙ rem_euclid_residue p c.args.z some in
    omega (arith, ints, is, residue_below p c.args.z some)
