use Rattle.std.proofs.Common.{◌≡◌, ◌<◌, sym, ap, ◌∙◌, subst, arith}
use Rattle.std.proofs.lemmas.List.{take_all}
use Rattle.ring.specs.Ring.{Residues}
use Rattle.ring.proofs.Centring.{map_residues}
use Rattle.keys.specs.Load.{residues_of}
use Rattle.keys.proofs.public_key.read_secret.Goals as goal

pub returns : goal.returns
returns g c =
    let s = g.S.ParamSet.params in
    let secret = c.args.secret.now in
    let some : 0 < s.p = let h = g.S.ParamSet.sound.k_below_p in omega arith in
    let value : c.coefficients.out ≡ residues_of s secret = sym (take_all c.coefficients.i c.coefficients.out (omega arith)) ∙ c.coefficients.invariant ∙ ap (residues_of s) (take_all c.coefficients.i secret (omega arith)) in
    record { value = value; residues = subst (Residues s.p) (sym value) (map_residues s.p secret some) }
