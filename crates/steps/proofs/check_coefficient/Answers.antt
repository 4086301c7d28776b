use Rattle.std.proofs.Common.{◌≡◌, ℕ, ◌+◌, ◌*◌, ◌%◌, ◌<◌, List, length, get_or, set, ap, ◌∙◌, ap₂, mul_assoc, mul_comm, add-mul, arith, rules}
use lib.Bits.{bit_and}
use Rattle.params.specs.Params.{reach}
use Rattle.words.proofs.Spendings.{spent_then, spends_then, spends_as, spends_so}
use Rattle.shares.specs.Groups.{residue_rule, word_of, residue_of}
use Rattle.shares.specs.Lawful.{residue_laws}
use Rattle.shares.specs.Refresh.{pairs}
use Rattle.shares.proofs.Pairs.{recombine-joined}
use Rattle.gadgets.specs.Words.{is_below}
use Rattle.steps.proofs.check_coefficient.Goals as goal

cost : (m g : ℕ) → (33 * m + 16) * g ≡ m * (33 * g) + 16 * g
cost m g = add-mul (33 * m) 16 g ∙ ap (λ (n : ℕ). n + 16 * g) (ap (λ (n : ℕ). n * g) (mul_comm 33 m) ∙ mul_assoc m 33 g)

-- the value of the moved shares
moved : (p k : ℕ) (zs : List ℕ) (v : ℕ) → 1 < p → 0 < length zs → v ≡ (get_or zs 0 0 + k) % p → residue_of p (set zs 0 v) ≡ (residue_of p zs + k) % p
moved p k zs v h l e = ap (λ (y : ℕ). residue_of p (set zs 0 y)) e ∙ recombine-joined (residue_rule p) (residue_laws p h) zs 0 k l

pub returns : goal.returns
returns g c =
    let p = g.P.ParamSet.params.p in
    let k = reach g.P.ParamSet.params in
    let sound = g.P.ParamSet.sound in
    let hz : length c.args.z ≡ g.row.M = search rules in
    let e = c.in_ok-word.ensures.by.1 ∙ moved p k c.args.z _ (omega arith) (omega (arith, c.requires.some)) (c.join.ensures ∙ ap (λ (v : ℕ). (get_or c.args.z 0 0 + v) % p) c.reach-reach.ensures) in
    let a = spent_then c.in_ok-word.ensures.by.0 c.in_ok-inside.ensures.by.0 in
    let t = cost g.row.M (pairs g.row.M) in
    let r = c.sec_and.result in
    spends_so r (spends_as r (spends_then r a c.sec_and.ensures) (omega arith))
    (λ q h. h.1 ∙ ap (λ (v : ℕ). bit_and v (word_of c.args.pass)) (c.in_ok-inside.ensures.by.1 ∙ ap₂ (λ (v r : ℕ). is_below v (2 * r + 1)) e c.reach-reach.ensures))
