use Rattle.std.proofs.Common.{ℕ, ◌+◌, ◌*◌, List, [], ◌∷◌, ◌++◌, map, get_or, take, drop, sym, refl, ap, ◌∙◌, subst, arith}
use Rattle.record.proofs.Fill.{next_field}
use Rattle.record.specs.Layout.{coefficient, unpacked}
use Rattle.std.proofs.lemmas.List.{append_assoc, append-nil, at_drop_all, at_drop_more, take_all}
use Rattle.ring.specs.Ring.{Residues}
use Rattle.till.proofs.Parts.{challenge_residues}
use Rattle.till.proofs.verify.read_challenge.Goals as goal

pub loop-i-preserved : goal.loop-i-preserved
loop-i-preserved g c =
    let f = coefficient g.S.ParamSet.params.p in
    let bytes = c.args.bytes.now in
    let area = c.loop-i.c in
    let i = c.loop-i.i in
    let field = map f (unpacked (get_or bytes i 0 ∷ [])) in
    let rest = map f (unpacked (drop (i + 1) bytes)) in
    let is = c.copy_from_slice.ensures.after ∙ c.read_byte.ensures in
    ap (λ (xs : List ℕ). xs ++ rest) (next_field (4 * i) _ area _ (take (4 * i) area) field refl is (4 * (i + 1)) (omega arith) (omega arith))
    ∙ append_assoc (take (4 * i) area) field rest
    ∙ ap (λ (xs : List ℕ). take (4 * i) area ++ xs) (sym (at_drop_more (λ bs. map f (unpacked bs)) bytes i 0 (omega arith)))
    ∙ c.loop-i.invariant

pub returns : goal.returns
returns g c =
    let s = g.S.ParamSet.params in
    let f = coefficient s.p in
    let bytes = c.args.bytes.now in
    let area = c.loop-i.c in
    let i = c.loop-i.i in
    let value =
    sym (append-nil area)
    ∙ ap (λ (xs : List ℕ). xs ++ []) (sym (take_all (4 * i) area (omega arith)))
    ∙ ap (λ (xs : List ℕ). take (4 * i) area ++ xs) (sym (at_drop_all (λ bs. map f (unpacked bs)) bytes i (omega arith)))
    ∙ c.loop-i.invariant in
    record { value = value; residues = subst (Residues s.p) (sym value) (challenge_residues s g.S.ParamSet.sound bytes) }
