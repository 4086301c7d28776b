-- A record that plain signing made, and whose check passed, is read back and verifies.
use Rattle.std.proofs.Common.{◌≡◌, ℕ, ◌*◌, ◌<◌, ◌≤◌, Bool, true, false, not, List, [], ◌∷◌, ◌++◌, map, length, take, drop, ℤ, nat_abs, None, sym, refl, ap, ◌∙◌, ap₂, arith, length-append}
use Rattle.std.specs.List.{AllByRecursion}
use Rattle.std.proofs.lemmas.List.{take_at, drop_at, length-take-le, length-drop, length-map}
use Rattle.std.proofs.lemmas.Bool.{and_parts, ltb-false}
use Rattle.params.specs.Params.{Params, Sound, reach}
use Rattle.refusal.specs.Tests.{first_hit}
use Rattle.ring.specs.Laws.{Proper}
use Rattle.ring.specs.Ring.{centre, residue, plus, minus, product}
use Rattle.ring.proofs.Polynomials.{length-plus, plus-residues, plus_comm, plus-minus, residues_mod, residues_append}
use Rattle.ring.proofs.Algebra.{plus-swap, length-product, product_plus, plus_product, product_assoc}
use Rattle.ring.proofs.Centring.{map_residue_centre}
use Rattle.record.specs.Layout.{encode, decode}
use Rattle.record.specs.Reading.{far, all_near, record_tests}
use Rattle.record.proofs.ReadingBack.{read_back}
use Rattle.challenge.specs.Challenge.{challenge}
use Rattle.challenge.proofs.Ternary.{challenge_long, challenge_ternary, challenge_proper}
use Rattle.plain.specs.Run.{Key, closed, passes}
use Rattle.till.specs.Verification.{PublicKey, commitment, expected}

not_far : (b : Bool) → not b ≡ true → b ≡ false
not_far true h = sym h
not_far false h = refl

near : (s : Params) (zs : List ℤ) → all_near s zs ≡ true → AllByRecursion (λ z. nat_abs z ≤ reach s) zs
near s [] h = tt
near s (z ∷ zs) h =
    let both = and_parts (not (far s z)) (all_near s zs) h in
    (ltb-false (reach s) (nat_abs z) (not_far (far s z) both.0), near s zs both.1)

module _ (s : Params) (sound : Sound s) (key : Key) (pa : Proper s.n s.p key.a) (p1 : Proper s.n s.p key.s1) (p2 : Proper s.n s.p key.s2) where
  abbrev p : ℕ
  p = s.p

  abbrev n : ℕ
  n = s.n

  some-p : 0 < s.p
  some-p = let k = sound.k_below_p in omega arith

  -- t
  abbrev t : List ℕ
  t = plus s.p (product s.p key.a key.s1) key.s2

  same_length : length (product s.p key.a key.s1) ≡ length key.s2
  same_length = length-product p key.a key.s1 ∙ p1.0 ∙ sym p2.0

  t-long : length t ≡ s.n
  t-long = length-plus p (product p key.a key.s1) key.s2 same_length ∙ p2.0

  pub public_key : PublicKey s (key.a ++ t)
  public_key = record {
    sized = length-append key.a t ∙ omega (arith, pa.0, t-long);
    residues = residues_append p key.a t pa.1 (plus-residues p (product p key.a key.s1) key.s2 some-p);
  }

  -- a·(s1·c + y1) + (s2·c + y2) − t·c = a·y1 + y2
  verification : (c y1 y2 : List ℕ) → Proper s.n s.p c → length y1 ≡ s.n → length y2 ≡ s.n →
      commitment s.p key.a t (plus s.p (product s.p key.s1 c) y1) (plus s.p (product s.p key.s2 c) y2) c ≡ plus s.p (product s.p key.a y1) y2
  verification c y1 y2 pc l1 l2 =
      let a = key.a in
      let s1c = product p key.s1 c in
      let s2c = product p key.s2 c in
      let as1c = product p a s1c in
      let ay1 = product p a y1 in
      let ls1c : length s1c ≡ n = length-product p key.s1 c ∙ pc.0 in
      let ls2c : length s2c ≡ n = length-product p key.s2 c ∙ pc.0 in
      let las1c : length as1c ≡ n = length-product p a s1c ∙ ls1c in
      let lay1 : length ay1 ≡ n = length-product p a y1 ∙ l1 in
      let signed : plus p (product p a (plus p s1c y1)) (plus p s2c y2) ≡ plus p (plus p ay1 y2) (plus p as1c s2c) =
      ap (λ (u : List ℕ). plus p u (plus p s2c y2)) (product_plus p a s1c y1 (ls1c ∙ sym l1))
      ∙ plus-swap p as1c ay1 s2c y2
      ∙ plus_comm p (plus p as1c s2c) (plus p ay1 y2) in
      let owed : product p t c ≡ plus p as1c s2c =
      plus_product p (product p a key.s1) key.s2 c same_length
      ∙ ap (λ (u : List ℕ). plus p u s2c) (product_assoc p a key.s1 c (pa.0 ∙ sym p1.0) (p1.0 ∙ sym pc.0) p1.1 pc.1) in
      let long : length (plus p ay1 y2) ≡ length (plus p as1c s2c) =
      length-plus p ay1 y2 (lay1 ∙ sym l2) ∙ l2 ∙ sym (length-plus p as1c s2c (las1c ∙ sym ls2c) ∙ ls2c) in
      ap₂ (minus p) signed owed ∙ plus-minus p (plus p ay1 y2) (plus p as1c s2c) some-p long ∙ residues_mod p (plus p ay1 y2) (plus-residues p ay1 y2 some-p)

  module _ (digest : List ℕ) (counter : ℕ) (y : List ℕ) (long : length y ≡ 2 * s.n) where
    abbrev y1 : List ℕ
    y1 = take s.n y

    abbrev y2 : List ℕ
    y2 = drop s.n y

    abbrev c : List ℕ
    c = challenge s (plus s.p (product s.p key.a y1) y2) digest counter

    abbrev z1 : List ℕ
    z1 = plus s.p (product s.p key.s1 c) y1

    abbrev z2 : List ℕ
    z2 = plus s.p (product s.p key.s2 c) y2

    y1-long : length y1 ≡ s.n
    y1-long = length-take-le n y (omega arith)

    y2-long : length y2 ≡ s.n
    y2-long = length-drop n y ∙ omega arith

    c-long : length c ≡ s.n
    c-long = challenge_long s _ digest counter

    z1-long : length z1 ≡ s.n
    z1-long = length-plus p (product p key.s1 c) y1 (length-product p key.s1 c ∙ c-long ∙ sym y1-long) ∙ y1-long

    z2-long : length z2 ≡ s.n
    z2-long = length-plus p (product p key.s2 c) y2 (length-product p key.s2 c ∙ c-long ∙ sym y2-long) ∙ y2-long

    -- the z that a till works on
    z_back : map (residue s.p) (map (centre s.p) (z1 ++ z2)) ≡ z1 ++ z2
    z_back = map_residue_centre p (z1 ++ z2) (residues_append p z1 z2 (plus-residues p (product p key.s1 c) y1 some-p) (plus-residues p (product p key.s2 c) y2 some-p))

    pub answers : expected s (key.a ++ t) (closed s key digest counter y) ≡ (closed s key digest counter y).c
    unfolding closed
    answers =
        let z = map (residue p) (map (centre p) (z1 ++ z2)) in
        let first : take n z ≡ z1 = ap (take n) z_back ∙ take_at z1 z2 n z1-long in
        let second : drop n z ≡ z2 = ap (drop n) z_back ∙ drop_at z1 z2 n z1-long in
        let of-key : commitment p (take n (key.a ++ t)) (drop n (key.a ++ t)) (take n z) (drop n z) c ≡ commitment p key.a t (take n z) (drop n z) c =
        ap₂ (λ (u v : List ℕ). commitment p u v (take n z) (drop n z) c) (take_at key.a t n pa.0) (drop_at key.a t n pa.0) in
        let of-z : commitment p key.a t (take n z) (drop n z) c ≡ commitment p key.a t z1 z2 c = ap₂ (λ (u v : List ℕ). commitment p key.a t u v c) first second in
        ap (λ (r : List ℕ). challenge s r digest counter) (of-key ∙ of-z ∙ verification c y1 y2 (challenge_proper s sound _ digest counter) y1-long y2-long)

    pub reads_back : counter < 65536 → length digest ≡ 32 → passes s (closed s key digest counter y) ≡ true →
        (first_hit (record_tests s (encode s (closed s key digest counter y))) ≡ None) × (decode s (encode s (closed s key digest counter y)) ≡ closed s key digest counter y)
    unfolding closed
    reads_back small bytes ok =
        read_back s sound (closed s key digest counter y) small bytes (length-map (z1 ++ z2) (centre p) ∙ length-append z1 z2 ∙ omega (arith, z1-long, z2-long)) c-long
        (record { near = near s (map (centre p) (z1 ++ z2)) ok; ternary = challenge_ternary s _ digest counter })
