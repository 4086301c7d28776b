use Rattle.std.proofs.Common.{◌≡◌, ℕ, ◌+◌, ◌*◌, ◌%◌, List, length, get_or, drop, refl, ap, ◌∙◌, arith, rules}
use Rattle.std.proofs.lemmas.List.{drop-set-lt}
use Rattle.words.proofs.Spendings.{spent_as, spent_then, times_more}
use Rattle.shares.specs.Groups.{residue_rule, word_of}
use Rattle.shares.specs.Lawful.{set_laws}
use Rattle.shares.specs.Refresh.{pairs}
use Rattle.gadgets.proofs.Masks.{Inverses, inverses-within, residue_below, shares-of}
use Rattle.gadgets.proofs.convert.to_residues.Goals as goal

pub to_words-requires : goal.to_words-requires
to_words-requires g c =
    let p = g.P.ParamSet.params.p in
    let hz : length c.in_ok-out.out ≡ g.row.M = search rules in
    let hy : length c.each-negatives.result ≡ g.row.M = search rules in
    let i : Inverses (residue_rule p) (set_laws g.P.ParamSet.params g.P.ParamSet.sound) c.in_ok-out.out c.each-negatives.result = (omega arith, λ k h. let t = c.each-negatives.ensures k (omega arith) in search rules) in
    (search rules, (c.requires.some, inverses-within (residue_rule p) (set_laws g.P.ParamSet.params g.P.ParamSet.sound) _ _ c.in_ok-out.ensures.by.1.1 i))

pub sec_add_modp-requires : goal.sec_add_modp-requires
sec_add_modp-requires g c = (search rules, (c.requires.some, (omega (arith, c.in_ok-less.ensures.by.1, residue_below g.P.ParamSet.params.p c.each-negatives.result (let sound = g.P.ParamSet.sound in omega arith)), c.requires.below)))

pub returns : goal.returns
returns g c =
    let p = g.P.ParamSet.params.p in
    let hz : length c.in_ok-out.out ≡ g.row.M = search rules in
    let hy : length c.each-negatives.result ≡ g.row.M = search rules in
    let i : Inverses (residue_rule p) (set_laws g.P.ParamSet.params g.P.ParamSet.sound) c.in_ok-out.out c.each-negatives.result = (omega arith, λ k h. let t = c.each-negatives.ensures k (omega arith) in search rules) in
    let t = times_more g.row.M (33 * pairs g.row.M) in
    let masks = c.in_ok-out.ensures.by in
    let a = spent_then (spent_then (spent_then masks.0 (spent_as {b = g.row.M * (33 * pairs g.row.M)} c.in_ok-less.ensures.by.0 refl)) (spent_as {b = 32 * pairs g.row.M} c.in_ok-rest.ensures.by.0 refl)) c.in_ok-out-2.ensures.by.0 in
    let v = c.in_ok-out-2.ensures.by.1 ∙ c.in_ok-rest.ensures.by.1 ∙ ap (λ (w : ℕ). (w + word_of c.args.x) % p) c.in_ok-less.ensures.by.1 in
    let s = shares-of (residue_rule p) (set_laws g.P.ParamSet.params g.P.ParamSet.sound) _ (word_of c.args.x) c.in_ok-out.out c.each-negatives.result (omega (arith, c.requires.some)) c.requires.below v masks.1.1 (ap (λ (zs : List ℕ). get_or zs 0 0) masks.1.0) i in
    record { by = (spent_as a (omega arith), (s.0, s.1, drop-set-lt 1 c.in_ok-out.out 0 _ (omega arith) ∙ ap (drop 1) masks.1.0)) }
