use Rattle.std.proofs.Common.{ℕ, ◌-◌, ◌%◌, sym, ap₂, ◌∙◌, mod-eq_of_lt, arith}
use Rattle.ring.proofs.Modular.{reduce_once}
use Rattle.ring.proofs.negated.Goals as goal

pub returns : goal.returns
returns g c =
    let p = g.S.ParamSet.params.p in
    c.reduce_once.ensures ∙ reduce_once p _ (omega arith) ∙ ap₂ (λ (m r : ℕ). (m - r) % p) c.modulus.ensures (sym (mod-eq_of_lt c.requires))
