-- Bytes that come one by one.
use Rattle.std.proofs.Common.{◌≡◌, ℕ, ◌+◌, ◌%◌, ◌<◌, ◌≤◌, ltb, List, [], ◌∷◌, ◌++◌, length, replicate, sym, ap, ◌∙◌, add-zero, zero-add, arith, lit<}
use Rattle.std.proofs.lemmas.Bool.{cond-true, lt-ltb}
use Rattle.std.proofs.lemmas.List.{length-append}
use Rattle.keccak.specs.Keccak.{keccak_f}
use Rattle.shake.specs.declared.Shake256.{Shake256}
use Rattle.shake.specs.Sponge.{xor_byte, xor_bytes}
use Rattle.shake.specs.Progress.{passed, fed, Absorbing}

pub fed_append : (s : List ℕ) (k : ℕ) (xs ys : List ℕ) → k < 136 → fed s k (xs ++ ys) ≡ fed (fed s k xs) ((k + length xs) % 136) ys
fed_append s k [] ys h =
    let e : k ≡ (k + 0) % 136 = omega arith in
    ap (λ (j : ℕ). fed s j ys) e
fed_append s k (x ∷ xs) ys h =
    let t : List ℕ = passed (k + 1) (xor_byte s k x) in
    let l : (k + 1) % 136 < 136 = omega arith in
    let e : ((k + 1) % 136 + length xs) % 136 ≡ (k + length (x ∷ xs)) % 136 = omega arith in
    fed_append t ((k + 1) % 136) xs ys l ∙ ap (λ (j : ℕ). fed (fed t ((k + 1) % 136) xs) j ys) e

-- bytes of one block
pub fed_within : (s : List ℕ) (k b : ℕ) (bs : List ℕ) → k + 1 + length bs ≤ 136
    → fed s k (b ∷ bs) ≡ passed (k + 1 + length bs) (xor_bytes s k (b ∷ bs))
unfolding xor_bytes
fed_within s k b [] h = ap (λ (p : ℕ). passed p (xor_byte s k b)) (sym (add-zero (k + 1)))
fed_within s k b (x ∷ bs) h =
    let t : List ℕ = xor_byte s k b in
    let l : k + 1 < 136 = omega arith in
    let e : (k + 1) % 136 ≡ k + 1 = omega arith in
    let le : k + 1 + 1 + length bs ≤ 136 = omega arith in
    let n : k + 1 + 1 + length bs ≡ k + 1 + length (x ∷ bs) = omega arith in
    ap (λ (u : List ℕ). fed u ((k + 1) % 136) (x ∷ bs)) (cond-true (ltb (k + 1) 136) t (keccak_f t) (lt-ltb (k + 1) 136 l))
    ∙ ap (λ (j : ℕ). fed t j (x ∷ bs)) e
    ∙ fed_within t (k + 1) x bs le
    ∙ ap (λ (j : ℕ). passed j (xor_bytes t (k + 1) (x ∷ bs))) n

-- the hasher g is h after more bytes
pub absorbing_more : (m bs : List ℕ) (h g : Shake256) → Absorbing m h → g.sponge.state ≡ fed h.sponge.state h.sponge.pos bs
    → g.sponge.pos ≡ (h.sponge.pos + length bs) % 136 → Absorbing (m ++ bs) g
absorbing_more m bs h g a e q =
    let apart = fed_append (replicate 25 0) 0 m bs (lit< tt) in
    let z = zero-add (length m) in
    let s = a.state_is in
    let p = a.place_is in
    record { state_is = cc; place_is = omega (arith, length-append m bs) }
