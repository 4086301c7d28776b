use Rattle.std.proofs.Common.{rules, ◌≡◌, ◌<◌, ◌≤◌, ℕ, ◌-◌, ◌*◌, ◌%◌, ◌^◌, length, get_or, sym, ap, ◌∙◌, subst, arith}
use Rattle.std.proofs.lemmas.Nat.{one_shl}
use lib.Bits.{bit_and}
use Rattle.plain.specs.Nonces.{LeastBits, bits, limit}
use Rattle.gauge.specs.Gauge.{small}
use Rattle.gauge.proofs.Cutting.{cut_is, cut_within, cut_below, narrow}
use Rattle.gauge.proofs.step.small.Goals as goal

pub returns : goal.returns
unfolding small
returns g c =
    let u = g.S.ParamSet.params in
    let xs = c.args.x in
    let zs = c.each.result in
    let hx : length xs ≡ g.row.M = search rules in
    let hz : length zs ≡ g.row.M = search rules in
    let few = c.candidate_bits.ensures.few in
    let b : ℕ = c.candidate_bits.result - 1 in
    let same : b ≡ bits u - 1 = ap (λ (n : ℕ). n - 1) c.candidate_bits.ensures.is in
    let least = subst (LeastBits (limit u)) c.candidate_bits.ensures.is c.candidate_bits.ensures.least in
    let n = narrow u g.S.ParamSet.sound least in
    let room = subst (λ (n : ℕ). 2 ^ n ≤ u.p) (sym same) n.1 in
    let mask : (1 * 2 ^ b) % 2 ^ 32 - 1 ≡ 2 ^ b - 1 = ap (λ (n : ℕ). n - 1) (one_shl b 32 (omega arith)) in
    let each : (k : ℕ) → k < length xs → get_or zs k 0 ≡ bit_and (get_or xs k 0) (2 ^ b - 1) = λ k h. (let t = c.each.ensures k (omega arith) in search rules) ∙ ap (bit_and (get_or xs k 0)) mask in
    let long : length zs ≡ length xs = omega arith in
    record {
      is = rw (← same) (cut_is b xs zs long each);
      within = cut_within b xs zs long each u.p room;
      below = cut_below b xs zs long each u.p room;
    }
