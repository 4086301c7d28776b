use Rattle.std.proofs.Common.{ℕ, ◌+◌, ◌*◌, List, [], ◌++◌, get_or, take, drop, ℤ, pos, sym, refl, ap, ◌∙◌, arith, w16, SFits, of_z, rules}
use Rattle.std.proofs.lemmas.List.{append_assoc, append-nil, at_drop_all, at_drop_more, take_all}
use Rattle.std.proofs.lemmas.Int.{to_z-of_z}
use Rattle.record.proofs.Fill.{next_field}
use Rattle.record.proofs.writer.write_z.Goals as goal
use Rattle.record.specs.Layout.{le2, z_bytes}

pub loop-i-preserved : goal.loop-i-preserved
loop-i-preserved c =
    let z = c.args.z.now in
    let part = c.loop-i.part in
    let i = c.loop-i.i in
    let field = le2 (of_z w16 (get_or z i (pos 0))) in
    let fits : SFits w16 (get_or z i (pos 0)) = search rules in
    let is = c.copy_from_slice.ensures.after ∙ c.to_le_bytes.ensures ∙ ap (λ (x : ℤ). le2 (of_z w16 x)) (to_z-of_z w16 _ fits) in
    ap (λ (xs : List ℕ). xs ++ z_bytes (drop (i + 1) z)) (next_field (2 * i) _ part _ (take (2 * i) part) field refl is (2 * (i + 1)) (omega arith) (omega arith))
    ∙ append_assoc (take (2 * i) part) field (z_bytes (drop (i + 1) z))
    ∙ ap (λ (xs : List ℕ). take (2 * i) part ++ xs) (sym (at_drop_more z_bytes z i (pos 0) (omega arith)))
    ∙ c.loop-i.invariant

pub returns : goal.returns
returns c =
    let z = c.args.z.now in
    let part = c.loop-i.part in
    let i = c.loop-i.i in
    sym (append-nil part)
    ∙ ap (λ (xs : List ℕ). xs ++ z_bytes []) (sym (take_all (2 * i) part (omega arith)))
    ∙ ap (λ (xs : List ℕ). take (2 * i) part ++ xs) (sym (at_drop_all z_bytes z i (omega arith)))
    ∙ c.loop-i.invariant
