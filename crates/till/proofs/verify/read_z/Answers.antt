use Rattle.std.proofs.Common.{ℕ, ◌/◌, List, [], map, length, refl, ap, ◌∙◌, arith, w16, SFits, rules}
use Rattle.record.proofs.Fill.{written_all, written-more}
use Rattle.ring.specs.Ring.{residue}
use Rattle.std.proofs.lemmas.Int.{to_z-of_z}
use Rattle.till.proofs.Parts.{residue_in, z-residues, z_residues}
use Rattle.till.proofs.verify.read_z.Goals as goal

pub loop-i-preserved : goal.loop-i-preserved
loop-i-preserved g c =
    let p = g.S.ParamSet.params.p in
    let pairs = c.as_chunks.result.0.now in
    let fits : SFits w16 c.from_le_bytes.result = search rules in
    let here = to_z-of_z w16 _ fits ∙ c.from_le_bytes.ensures in
    written-more (residue_in p) c.loop-i.z pairs c.loop-i.i [] c.to_residue.result (omega arith) (omega arith) c.loop-i.invariant (c.to_residue.ensures ∙ ap (residue p) here)

pub returns : goal.returns
returns g c =
    let s = g.S.ParamSet.params in
    let bytes = c.args.bytes.now in
    let value =
    written_all (residue_in s.p) c.loop-i.z c.as_chunks.result.0.now c.loop-i.i (omega arith) (omega arith) c.loop-i.invariant
    ∙ ap (λ (xs : List (List ℕ)). map (residue_in s.p) xs) c.as_chunks.ensures.front
    ∙ z-residues s.p (length bytes / 2) bytes refl in
    record { value = value; residues = z_residues s g.S.ParamSet.sound bytes c.loop-i.z value }
