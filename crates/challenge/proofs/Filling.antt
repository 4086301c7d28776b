-- One word of the stream after the other.
use Rattle.std.proofs.Common.{◌≡◌, ℕ, zero, suc, ◌+◌, ◌-◌, ◌*◌, ◌%◌, ◌<◌, ◌≤◌, cond, eqb, List, [], ◌∷◌, length, get_or, drop, set, sym, refl, ap, ◌∙◌, ap₂, arith}
use Rattle.std.proofs.lemmas.List.FromFn.{length-map-range_with_len, get_or-map-range_with_len}
use Rattle.std.proofs.lemmas.List.{drop_more, drop_all}
use Rattle.std.proofs.lemmas.Bool.{cond-true, cond-false, eq-eqb, ne_eqb}
use Rattle.params.specs.Params.{Params}
use Rattle.shake.specs.Sponge.{shake_word16}
use Rattle.challenge.specs.Challenge.{stream, place, unit, filled}

pub length_stream : (m : List ℕ) → length (stream m) ≡ 512
unfolding stream
length_stream m = length-map-range_with_len (λ j. shake_word16 m (2 * j)) 0 512

-- the word that comes next
pub next_word : (m : List ℕ) (j w : ℕ) → j < 512 → w ≡ shake_word16 m (2 * j) → drop j (stream m) ≡ w ∷ drop (j + 1) (stream m)
unfolding stream
next_word m j w h e =
    let l : j < length (stream m) = omega (arith, length_stream m) in
    drop_more (stream m) j 0 l
    ∙ ap (λ (v : ℕ). v ∷ drop (j + 1) (stream m)) (get_or-map-range_with_len (λ i. shake_word16 m (2 * i)) 0 512 j j 0 h (omega arith) ∙ sym e)

pub all_found : (s : Params) (wanted : ℕ) (words c : List ℕ) → wanted ≡ 0 → filled s wanted words c ≡ c
unfolding filled
all_found s wanted words c e = ap (λ (k : ℕ). filled s k words c) e

no_word_left : (s : Params) (wanted : ℕ) (c : List ℕ) → filled s wanted [] c ≡ c
unfolding filled
no_word_left s zero c = refl
no_word_left s (suc k) c = refl

pub all_read : (s : Params) (wanted j : ℕ) (m c : List ℕ) → 512 ≤ j → filled s wanted (drop j (stream m)) c ≡ c
all_read s wanted j m c h = ap (λ (ws : List ℕ). filled s wanted ws c) (drop_all j (stream m) (omega (arith, length_stream m))) ∙ no_word_left s wanted c

module _ (s : Params) (wanted j w : ℕ) (m c : List ℕ) (some : 0 < wanted) (inside : j < 512) (word : w ≡ shake_word16 m (2 * j)) where
  step : filled s wanted (drop j (stream m)) c
      ≡ cond (eqb (get_or c (w % s.n) 0) 0) (filled s (wanted - 1) (drop (j + 1) (stream m)) (set c (w % s.n) (unit s.p (place s.n w).1))) (filled s wanted (drop (j + 1) (stream m)) c)
  unfolding filled
  step =
      let e : wanted ≡ suc (wanted - 1) = omega arith in
      let rest : List ℕ = drop (j + 1) (stream m) in
      ap₂ (λ (k : ℕ) (ws : List ℕ). filled s k ws c) e (next_word m j w inside word)
      ∙ ap (λ (k : ℕ). cond (eqb (get_or c (w % s.n) 0) 0) (filled s (wanted - 1) rest (set c (w % s.n) (unit s.p (place s.n w).1))) (filled s k rest c)) (sym e)

  pub position-free : get_or c (w % s.n) 0 ≡ 0
      → filled s (wanted - 1) (drop (j + 1) (stream m)) (set c (w % s.n) (unit s.p (place s.n w).1)) ≡ filled s wanted (drop j (stream m)) c
  position-free e = sym (step ∙ cond-true (eqb (get_or c (w % s.n) 0) 0) _ _ (eq-eqb (get_or c (w % s.n) 0) 0 e))

  pub position-taken : (get_or c (w % s.n) 0 ≡ 0 → ⊥) → filled s wanted (drop (j + 1) (stream m)) c ≡ filled s wanted (drop j (stream m)) c
  position-taken e = sym (step ∙ cond-false (eqb (get_or c (w % s.n) 0) 0) _ _ (ne_eqb (get_or c (w % s.n) 0) 0 e))
