-- What stands in the state is output.
use Rattle.std.proofs.Common.{◌≡◌, ℕ, zero, suc, ◌+◌, ◌*◌, ◌/◌, ◌%◌, ◌^◌, ◌<◌, ◌≤◌, ltb, List, ◌∷◌, map, length, get_or, take, set, sym, refl, ap, ◌∙◌, inl, inr, add_assoc, ap₂, arith}
use Rattle.std.specs.List.{range_with_len}
use Rattle.std.proofs.lemmas.Bool.{cases_lt, cond-true, cond-false, lt-ltb, le-ltb}
use Rattle.std.proofs.lemmas.Nat.{shr-shr}
use Rattle.std.proofs.lemmas.List.FromFn.{map-range_with_len_more}
use Rattle.std.proofs.lemmas.List.{take_more_set}
use Rattle.keccak.specs.Keccak.{keccak_f}
use Rattle.shake.specs.declared.Squeezer.{Squeezer}
use Rattle.shake.specs.Sponge.{byte_of, absorbed, later, shake_byte}
use Rattle.shake.specs.Progress.{passed, Reading}

-- the state t and the place q are those of the squeezer h some bytes of its block further on
pub reading_on : (m : List ℕ) (i n : ℕ) (h : Squeezer) (t : List ℕ) (q : ℕ) → Reading m i h → h.sponge.pos + n ≤ 136 → t ≡ passed (h.sponge.pos + n) h.sponge.state
    → q ≡ (h.sponge.pos + n) % 136 → (t ≡ later ((i + n) / 136) (absorbed m)) × (q ≡ (i + n) % 136)
unfolding later
reading_on m i n h t q a l e f =
    let p : h.sponge.pos ≡ i % 136 = a.1 in
    let at : q ≡ (i + n) % 136 = omega arith in
    elim (cases_lt (h.sponge.pos + n) 136) [
      | inl b ↦
          let d : i / 136 ≡ (i + n) / 136 = omega arith in
          let same = cond-true (ltb (h.sponge.pos + n) 136) h.sponge.state (keccak_f h.sponge.state) (lt-ltb (h.sponge.pos + n) 136 b) in
          (e ∙ same ∙ a.0 ∙ ap (λ (k : ℕ). later k (absorbed m)) d, at)
      | inr b ↦
          let d : suc (i / 136) ≡ (i + n) / 136 = omega arith in
          let next = cond-false (ltb (h.sponge.pos + n) 136) h.sponge.state (keccak_f h.sponge.state) (le-ltb (h.sponge.pos + n) 136 b) in
          (e ∙ next ∙ ap keccak_f a.0 ∙ ap (λ (k : ℕ). later k (absorbed m)) d, at)
    ]

-- Below, x is the rest of the lane that byte i of the output stands in.

pub byte_of_rest : (m : List ℕ) (i j x : ℕ) (h : Squeezer) → Reading m i h → x ≡ get_or h.sponge.state (h.sponge.pos / 8) 0 / 2 ^ (8 * (h.sponge.pos % 8))
    → h.sponge.pos % 8 + j < 8 → shake_byte m (i + j) ≡ x / 2 ^ (8 * j) % 256
unfolding shake_byte byte_of
byte_of_rest m i j x h a e l =
    let s = a.0 in
    let p : h.sponge.pos ≡ i % 136 = a.1 in
    let d : (i + j) / 136 ≡ i / 136 = omega arith in
    let r : (i + j) % 136 ≡ h.sponge.pos + j = omega arith in
    let d8 : (h.sponge.pos + j) / 8 ≡ h.sponge.pos / 8 = omega arith in
    let r8 : 8 * ((h.sponge.pos + j) % 8) ≡ 8 * (h.sponge.pos % 8) + 8 * j = omega arith in
    let shifts = shr-shr (get_or h.sponge.state (h.sponge.pos / 8) 0) (8 * (h.sponge.pos % 8)) (8 * j) in
    cc

pub bytes_of_rest : (m : List ℕ) (i x : ℕ) (h : Squeezer) → Reading m i h → x ≡ get_or h.sponge.state (h.sponge.pos / 8) 0 / 2 ^ (8 * (h.sponge.pos % 8))
    → (j n : ℕ) → h.sponge.pos % 8 + j + n ≤ 8 → map (λ k. x / 2 ^ (8 * k) % 256) (range_with_len j n) ≡ map (shake_byte m) (range_with_len (i + j) n)
bytes_of_rest m i x h a e j zero l = refl
bytes_of_rest m i x h a e j (suc n) l =
    let first = byte_of_rest m i j x h a e (omega arith) in
    let more = bytes_of_rest m i x h a e (j + 1) n (omega arith) in
    ap₂ (λ b bs. b ∷ bs) (sym first) (more ∙ ap (λ k. map (shake_byte m) (range_with_len k n)) (sym (add_assoc i j 1)))

pub one_more : (m out : List ℕ) (i k r : ℕ) → k < length out → take k out ≡ map (shake_byte m) (range_with_len i k) → r ≡ shake_byte m (i + k)
    → take (k + 1) (set out k r) ≡ map (shake_byte m) (range_with_len i (k + 1))
one_more m out i k r l e q =
    let a = take_more_set out k r l in
    let b = map-range_with_len_more (shake_byte m) i k (i + k) refl in
    cc
