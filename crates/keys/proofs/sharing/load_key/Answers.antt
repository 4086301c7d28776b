use Rattle.std.proofs.Common.{◌≡◌, ◌*◌, ◌<◌, length, get_or, pos, sym, ap, ◌∙◌, arith, w8, SFits, rules}
use Rattle.std.proofs.lemmas.List.{get_or-map}
use Rattle.std.proofs.lemmas.Int.{to_z-of_z}
use Rattle.ring.specs.Ring.{residue}
use Rattle.ring.proofs.Centring.{residue_below}
use Rattle.std.proofs.lemmas.Result.{err_from_is_err_and}
use Rattle.keys.specs.Load.{residues_of}
use Rattle.keys.proofs.Loading.{going-none, going_more, going-all, going-short}
use Rattle.keys.proofs.sharing.load_key.Goals as goal

pub loop-c-init : goal.loop-c-init
loop-c-init g c = going-none g.S.ParamSet.params g.row.M c.args.secret.coefficients.now (g.W.Source.flow c.args.masks.now) c.args.key.now

pub load_coefficient-requires-clause-value : goal.load_coefficient-requires-clause-value
load_coefficient-requires-clause-value g c =
    let s = g.S.ParamSet.params in
    let some : 0 < s.p = let h = g.S.ParamSet.sound.k_below_p in omega arith in
    let r = residue_below s.p (get_or c.args.secret.coefficients.now c.loop-c.c (pos 0)) some in
    let fits : SFits w8 (get_or c.args.secret.coefficients.now c.loop-c.c (pos 0)) = search rules in
    let v = c.secret_residue-value.ensures ∙ ap (residue s.p) (to_z-of_z w8 _ fits) in
    omega arith

pub loop-c-preserved : goal.loop-c-preserved
loop-c-preserved g c =
    let s = g.S.ParamSet.params in
    let d = c.in_ok-load_coefficient.ensures in
    let inside : c.loop-c.c < length c.args.secret.coefficients.now = omega arith in
    let fits : SFits w8 (get_or c.args.secret.coefficients.now c.loop-c.c (pos 0)) = search rules in
    let v : c.secret_residue-value.result ≡ get_or (residues_of s c.args.secret.coefficients.now) c.loop-c.c 0 = c.secret_residue-value.ensures ∙ ap (residue s.p) (to_z-of_z w8 _ fits) ∙ sym (get_or-map (residue s.p) c.args.secret.coefficients.now c.loop-c.c (pos 0) 0 inside) in
    going_more s g.row.M c.args.secret.coefficients.now (g.W.Source.flow c.args.masks.now) v record { split = d.split; others = d.others } c.loop-c.invariant

pub returns : goal.returns
returns g c =
    let least = g.S.ParamSet.sound.n_least in
    let e : c.loop-c.c ≡ 2 * g.S.ParamSet.params.n = omega arith in
    record { by = going-all g.S.ParamSet.params g.row.M c.args.secret.coefficients.now (g.W.Source.flow c.args.masks.now) (omega arith) c.args.secret.sized (c.loop-c.auto.key ∙ c.requires.sized) e c.loop-c.invariant }

pub returns-in_err-load_coefficient : goal.returns-in_err-load_coefficient
returns-in_err-load_coefficient g c =
    let d = c.in_err-load_coefficient.ensures in
    let p = err_from_is_err_and c.from_residual.result c.from_residual.ensures.1 in
    rw (p.1, p.2) record { by = going-short g.S.ParamSet.params g.row.M c.args.secret.coefficients.now (g.W.Source.flow c.args.masks.now) (omega arith) record { split = d.split; others = d.others } c.loop-c.invariant }
