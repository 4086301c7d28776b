-- Shares cut to fewer bits.
use Rattle.std.proofs.Common.{◌≡◌, ℕ, ◌-◌, ◌%◌, ◌^◌, ◌<◌, ◌≤◌, List, map, length, get_or, sym, ◌∙◌, subst, mod-lt, pow_pos, inl, inr, arith}
use Rattle.std.proofs.lemmas.List.{length-map, get_or-map, ext_get_or}
use Rattle.std.proofs.lemmas.Bool.{cases_lt}
use lib.Bits.{bit_and, and_mask}
use Rattle.params.specs.Params.{Params, Sound}
use Rattle.plain.specs.Nonces.{LeastBits, bits, limit}
use Rattle.linear.proofs.Sharewise.{placed, and_linear}
use Rattle.shares.specs.Rule.{Within}
use Rattle.shares.specs.Groups.{residue_rule, word_of}

-- a list of the words of xs, each with the mask's bits alone
module _ (b : ℕ) (xs zs : List ℕ) (long : length zs ≡ length xs) (each : (k : ℕ) → k < length xs → get_or zs k 0 ≡ bit_and (get_or xs k 0) (2 ^ b - 1)) where
  pub cut_is : zs ≡ map (λ share. share % 2 ^ b) xs
  cut_is =
      ext_get_or 0 zs (map (λ share. share % 2 ^ b) xs) (long ∙ sym (length-map xs (λ share. share % 2 ^ b)))
      (λ k h.
      let l : k < length xs = omega arith in
      each k l ∙ and_mask (get_or xs k 0) b ∙ sym (get_or-map (λ share. share % 2 ^ b) xs k 0 0 l))

  pub cut_within : (p : ℕ) → 2 ^ b ≤ p → Within (residue_rule p) zs
  cut_within p h k l =
      let i : k < length xs = omega arith in
      let e = each k i ∙ and_mask (get_or xs k 0) b in
      let s = mod-lt (get_or xs k 0) (pow_pos b) in
      omega arith

  pub cut_below : (p : ℕ) → 2 ^ b ≤ p → word_of zs < p
  cut_below p h =
      let e = placed (λ x. bit_and x (2 ^ b - 1)) (and_linear (2 ^ b - 1)) zs xs long each ∙ and_mask (word_of xs) b in
      let s = mod-lt (word_of xs) (pow_pos b) in
      omega arith

-- one bit less than a candidate has
pub narrow : (u : Params) → Sound u → LeastBits (limit u) (bits u) → (1 ≤ bits u) × (2 ^ (bits u - 1) ≤ u.p)
narrow u sound l =
    let room = sound.k_below_p in
    let some : 1 ≤ bits u =
    elim (cases_lt 0 (bits u)) [
      | inl h ↦ omega arith
      | inr h ↦ (let e : bits u ≡ 0 = omega arith in let a : limit u < 2 ^ 0 = subst (λ w. limit u < 2 ^ w) e l.above in absurd (omega arith))
    ] in (
      some,
      elim (cases_lt (limit u) (2 ^ (bits u - 1))) [
        | inl h ↦ (let m = l.least (bits u - 1) h in absurd (omega arith))
        | inr h ↦ omega arith
      ],
    )
