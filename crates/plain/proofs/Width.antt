-- How many bits a candidate has.
use Rattle.std.proofs.Common.{◌≡◌, ℕ, zero, suc, ◌+◌, ◌^◌, ◌<◌, ◌≤◌, ltb, ap, subst, arith}
use Rattle.std.proofs.lemmas.Bool.{cond_both, ltb-true, ltb-false}
use Rattle.plain.specs.Nonces.{limit, bits, bits_from, LeastBits}
use Rattle.plain.specs.Laws.{CandidateBits}

-- w is not enough, so that one more is needed
one_more : (w v x : ℕ) → w ≤ v → 2 ^ w ≤ x → x < 2 ^ v → w + 1 ≤ v
one_more w v x le few enough =
    cond_both (ltb w v) w w (λ _. w + 1 ≤ v)
    (λ t. omega (arith, ltb-true w v t))
    (λ f. let same : w ≡ v = omega (arith, ltb-false w v f) in let e : 2 ^ w ≡ 2 ^ v = ap (λ (k : ℕ). 2 ^ k) same in omega arith)

least : (more w x : ℕ) → x < 2 ^ (w + more) → ((v : ℕ) → x < 2 ^ v → w ≤ v) → LeastBits x (bits_from more w x)
unfolding bits_from
least zero w x top low = let e : w + 0 ≡ w = omega arith in record { above = subst (λ (k : ℕ). x < 2 ^ k) e top; least = low }
least (suc more) w x top low =
    let e : w + suc more ≡ w + 1 + more = omega arith in
    cond_both (ltb x (2 ^ w)) w (bits_from more (w + 1) x) (LeastBits x)
    (λ t. record { above = ltb-true x (2 ^ w) t; least = low })
    (λ f. least more (w + 1) x (subst (λ (k : ℕ). x < 2 ^ k) e top) (λ v h. one_more w v x (low v h) (ltb-false x (2 ^ w) f) h))

pub candidate_bits : CandidateBits
unfolding bits
candidate_bits s sound = least 24 0 (limit s) (let p = sound.p_small in let k = sound.k_below_p in omega arith) (λ v h. omega arith)
