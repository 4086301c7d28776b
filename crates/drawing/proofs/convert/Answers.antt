use Rattle.std.proofs.Common.{◌≡◌, ℕ, ◌+◌, ◌-◌, ◌%◌, ◌<◌, List, length, get_or, set, sym, ap, ◌∙◌, subst, arith, rules}
use native.Mathlib.Nat.{add-mod-mod}
use Rattle.std.proofs.lemmas.List.{drop-set-lt}
use Rattle.shares.specs.Rule.{Within}
use Rattle.shares.specs.Groups.{residue_rule, residue_of, word_of}
use Rattle.shares.specs.Lawful.{residue_laws}
use Rattle.shares.proofs.Pairs.{recombine-joined, set-within}
use Rattle.plain.specs.Nonces.{coefficient}
use Rattle.drawing.proofs.convert.Goals as goal

-- shares with k taken from the first
less-k : (p k x : ℕ) (ys : List ℕ) (v : ℕ) → 1 < p → k < p → 0 < length ys → Within (residue_rule p) ys → residue_of p ys ≡ x → v ≡ (get_or ys 0 0 + (p - k) % p) % p
    → Within (residue_rule p) (set ys 0 v) × (residue_of p (set ys 0 v) ≡ (x + (p - k)) % p)
less-k p k x ys v big small some w e is =
    let laws = residue_laws p big in
    let r : (p - k) % p < p = laws.inverse_in k small in (
      set-within (residue_rule p) laws ys 0 v w (subst (λ (t : ℕ). t < p) (sym is) (laws.closed (get_or ys 0 0) ((p - k) % p) (w 0 some) r)),
      ap (λ (t : ℕ). residue_of p (set ys 0 t)) is
          ∙ recombine-joined (residue_rule p) laws ys 0 ((p - k) % p) some
          ∙ ap (λ (t : ℕ). (t + (p - k) % p) % p) e
          ∙ add-mod-mod x (p - k) p,
    )

pub returns : goal.returns
unfolding coefficient
returns g c =
    let s = g.S.ParamSet.params in
    let sound = g.S.ParamSet.sound in
    let d = c.in_ok-y.ensures.by in
    let y = c.in_ok-y.y in
    let long : length y ≡ g.row.M = search rules in
    let some = c.requires.some in
    let k = c.nonce_bound.ensures in
    let room = sound.k_below_p in
    let p = s.p in
    let v = less-k p c.nonce_bound.result (word_of c.args.x) y c.join.result (omega arith) (omega arith) (omega arith) d.1.0 d.1.1 (c.join.ensures ∙ ap (λ (t : ℕ). (get_or y 0 0 + t) % p) c.inverse-less.ensures) in
    record { by = (d.0, (v.0, v.1 ∙ ap (λ (t : ℕ). (word_of c.args.x + (p - t)) % p) k, drop-set-lt 1 y 0 c.join.result (omega arith) ∙ d.1.2)) }
