use borrow.Rule.Slice.PartMut.{post_of}
use Rattle.std.proofs.Common.{◌≡◌, ℕ, ◌-◌, ◌*◌, true, ◌&&◌, eqb, List, ◌++◌, map, length, None, Ok, Err, sym, ap, ◌∙◌, subst, arith}
use Rattle.params.proofs.Facts.{n_quarters}
use Rattle.refusal.specs.declared.Refusal.TheVariants.{AreaSize}
use Rattle.std.proofs.lemmas.List.{append_assoc, length-take, length-drop, take_at}
use Rattle.std.proofs.lemmas.Bool.{and_parts, cond-true, eqb-true}
use Rattle.record.proofs.Fill.{next_field, last-field}
use Rattle.record.proofs.ReadingBack.{read_back}
use Rattle.record.proofs.writer.write.Goals as goal
use Rattle.record.specs.Layout.{code_of, decode, encode, kind, le2, le4, packed, size, z_bytes}
use Rattle.refusal.specs.Tests.{first_hit}
use Rattle.record.specs.Reading.{record_tests}
use Rattle.record.specs.Writing.{content_of, sized}

-- the tests of the sizes, one by one
sizes : (a b c d e f : ℕ) → (eqb a b && (eqb c d && eqb e f)) ≡ true → (a ≡ b) × (c ≡ d) × (e ≡ f)
sizes a b c d e f h =
    let p = and_parts (eqb a b) (eqb c d && eqb e f) h in
    let q = and_parts (eqb c d) (eqb e f) p.1 in
    (eqb-true a b p.0, eqb-true c d q.0, eqb-true e f q.1)

pub write_challenge-requires : goal.write_challenge-requires
write_challenge-requires g c =
    let s = g.S.ParamSet.params in
    let fit = sizes (length c.args.out.now) (size s) (length c.args.z.now) (2 * s.n) (length c.args.c.now) s.n (sym c.sizes_fit.ensures ∙ c.if-not-sizes_fit.false) in
    simp (length-take, length-drop) (omega (arith, n_quarters s g.S.ParamSet.sound))

pub returns : goal.returns
returns g c =
    let s = g.S.ParamSet.params in
    let z_end = c.challenge_start-z_end.result in
    let out = c.args.out.now in
    let digest = c.args.digest.now in
    let r = content_of c.args.counter digest c.args.z.now c.args.c.now in
    let fit : sized s out r ≡ true = sym c.sizes_fit.ensures ∙ c.if-not-sizes_fit.false in
    let each = sizes (length out) (size s) (length r.z) (2 * s.n) (length r.c) s.n fit in
    let at8 = take_at c.copy_from_slice.new.self (post_of 0 8 out) 8 (omega arith) ∙ c.copy_from_slice.ensures.after ∙ c.head.ensures in
    let at40 = next_field 8 32 _ _ _ _ at8 c.copy_from_slice-2.ensures.after 40 (omega arith) (omega arith) in
    let at-end = next_field 40 (z_end - 40) _ _ _ _ at40 c.write_z.ensures z_end (omega (arith, ap length c.write_z.ensures)) (omega arith) in
    let filled = last-field z_end (c.size.result - z_end) _ _ _ _ at-end c.write_challenge.ensures (omega arith)
    ∙ ap (λ (xs : List ℕ). le4 (size s - 4) ++ (le2 (kind s) ++ (le2 r.counter ++ xs))) (append_assoc digest (z_bytes r.z) (packed (map code_of r.c))) in
    record {
      answer = sym (cond-true (sized s out r) (Ok tt) (Err AreaSize) fit);
      after = filled ∙ sym (cond-true (sized s out r) (encode s r) out fit);
      reads_back = λ _ proper.
          subst (λ (area : List ℕ). (first_hit (record_tests s area) ≡ None) × (decode s area ≡ r)) (sym filled)
          (read_back s g.S.ParamSet.sound r (omega arith) (omega arith) each.1 each.2 proper);
    }
