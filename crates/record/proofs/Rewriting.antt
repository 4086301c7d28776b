-- What the reader accepts is what the writer would write.
use Rattle.std.proofs.Common.{◌≡◌, ℕ, zero, suc, ◌+◌, ◌-◌, ◌*◌, ◌/◌, ◌%◌, ◌<◌, Bool, false, eqb, ltb, List, [], ◌∷◌, ◌++◌, map, length, take, drop, Some, None, sym, refl, ap, ◌∙◌, ap₂, inl, inr, arith, lit<, w16, Fits}
use mir.Facts.{of_z-to_z}
use Rattle.std.proofs.lemmas.List.{take-append-drop, drop-drop, length-take-le, length-drop, get_or-drop}
use Rattle.std.proofs.lemmas.Bool.{cond-true, cond-false, cases_Bool, cases_eq, eqb-false, eq-eqb, ne_eqb, lt-ltb, le-ltb}
use Rattle.params.specs.Params.{Params}
use Rattle.record.specs.Layout.{size, kind, le2, le4, num2, num4, z_bytes, z_of, code_of, coefficient, packed, unpacked, digest_part, z_part, c_part, encode, decode}
use Rattle.search.specs.First.{first_from, first_at}
use Rattle.record.proofs.Bytes.{Bytes, le2_of, le2_at, le4_at}

bytes_take : (k : ℕ) (bs : List ℕ) → Bytes bs → Bytes (take k bs)
bytes_take zero bs h i = lit< tt
bytes_take (suc k) [] h i = h i
bytes_take (suc k) (x ∷ xs) h zero = h zero
bytes_take (suc k) (x ∷ xs) h (suc i) = bytes_take k xs (λ j. h (suc j)) i

bytes_drop : (k : ℕ) (bs : List ℕ) → Bytes bs → Bytes (drop k bs)
bytes_drop k bs h i = rw (get_or-drop k bs i 0) (h (k + i))

-- a byte is its four codes
four_codes : (v : ℕ) → v < 256 → v % 4 + 4 * (v / 4 % 4) + 16 * (v / 16 % 4) + 64 * (v / 64 % 4) ≡ v
four_codes v h =
    let a : v ≡ v % 4 + 4 * (v / 4) = omega arith in
    let b : v / 4 ≡ v / 4 % 4 + 4 * (v / 4 / 4) = omega arith in
    let c : v / 4 / 4 ≡ v / 16 = omega arith in
    let d : v / 16 ≡ v / 16 % 4 + 4 * (v / 16 / 4) = omega arith in
    let e : v / 16 / 4 ≡ v / 64 = omega arith in
    let f : v / 64 % 4 ≡ v / 64 = omega arith in
    omega arith

pub z_again : (bs : List ℕ) (k : ℕ) → length bs ≡ 2 * k → Bytes bs → z_bytes (z_of bs) ≡ bs
z_again [] k e h = refl
z_again (a ∷ []) k e h = absurd (omega arith)
z_again (a ∷ b ∷ bs) zero e h = absurd (omega arith)
z_again (a ∷ b ∷ bs) (suc k) e h =
    let la : a < 256 = h 0 in
    let lb : b < 256 = h 1 in
    let fits : Fits w16 (a + b * 256) = omega arith in
    ap (λ (v : ℕ). le2 v ++ z_bytes (z_of bs)) (of_z-to_z fits)
    ∙ ap₂ ◌++◌ (le2_of a b la lb) (z_again bs k (omega arith) (λ i. h (suc (suc i))))

-- no hit is left: the first element misses, and so do the others
none_hits : {A : Type 0} (test : A → Bool) (i : ℕ) (x : A) (xs : List A) → first_from test i (x ∷ xs) ≡ None → (test x ≡ false) × (first_from test (i + 1) xs ≡ None)
none_hits test i x xs e =
    elim (cases_Bool (test x)) [
      | inl t ↦ absurd (let z : ◌≡◌ {A = ℕ} 0 1 = cc (cond-true (test x) (Some i) (first_from test (i + 1) xs) t) in omega arith)
      | inr f ↦ (f, sym (cond-false (test x) (Some i) (first_from test (i + 1) xs) f) ∙ e)
    ]

-- a code other than 2 is that of its coefficient
code_again : (p code : ℕ) → 2 < p → code < 4 → eqb code 2 ≡ false → code_of (coefficient p code) ≡ code
code_again p code h l ne =
    elim (cases_eq code 3) [
      | inl e ↦
          ap (λ (v : ℕ). code_of v) (cond-true (eqb code 3) (p - 1) code (eq-eqb code 3 e)) ∙ cond-false (ltb (p - 1) 2) (p - 1) 3 (le-ltb (p - 1) 2 (omega arith)) ∙ sym e
      | inr e ↦
          let small : code < 2 = omega (arith, eqb-false code 2 ne) in
          ap (λ (v : ℕ). code_of v) (cond-false (eqb code 3) (p - 1) code (ne_eqb code 3 e)) ∙ cond-true (ltb code 2) code 3 (lt-ltb code 2 small)
    ]

pub c_again : (p i : ℕ) (bs : List ℕ) → 2 < p → Bytes bs → first_from (λ code. eqb code 2) i (unpacked bs) ≡ None → packed (map code_of (map (coefficient p) (unpacked bs))) ≡ bs
c_again p i [] h b e = refl
c_again p i (byte ∷ bs) h b e =
    let test : ℕ → Bool = λ (code : ℕ). eqb code 2 in
    let lb : byte < 256 = b 0 in
    let n0 = none_hits test i (byte % 4) (byte / 4 % 4 ∷ byte / 16 % 4 ∷ byte / 64 % 4 ∷ unpacked bs) e in
    let n1 = none_hits test (i + 1) (byte / 4 % 4) (byte / 16 % 4 ∷ byte / 64 % 4 ∷ unpacked bs) n0.1 in
    let n2 = none_hits test (i + 1 + 1) (byte / 16 % 4) (byte / 64 % 4 ∷ unpacked bs) n1.1 in
    let n3 = none_hits test (i + 1 + 1 + 1) (byte / 64 % 4) (unpacked bs) n2.1 in
    let c0 = code_again p (byte % 4) h (omega arith) n0.0 in
    let c1 = code_again p (byte / 4 % 4) h (omega arith) n1.0 in
    let c2 = code_again p (byte / 16 % 4) h (omega arith) n2.0 in
    let c3 = code_again p (byte / 64 % 4) h (omega arith) n3.0 in
    let whole : byte % 4 + 4 * (byte / 4 % 4) + 16 * (byte / 16 % 4) + 64 * (byte / 64 % 4) ≡ byte = four_codes byte lb in
    ap₂ (λ (v : ℕ) (vs : List ℕ). v ∷ vs) (omega (arith, whole, c0, c1, c2, c3)) (c_again p (i + 1 + 1 + 1 + 1) bs h (λ k. b (suc k)) n3.1)

-- a record's bytes from its fields
pub written_again : (s : Params) (bytes : List ℕ) → 2 < s.p → s.n % 4 ≡ 0 → Bytes bytes → length bytes ≡ size s → num4 bytes 0 ≡ size s - 4 → num2 bytes 4 ≡ kind s
    → first_at (λ code. eqb code 2) (unpacked (c_part s bytes)) ≡ None → encode s (decode s bytes) ≡ bytes
written_again s bytes h q b l len kin none =
    let z = z_part s bytes in
    let c = c_part s bytes in
    let n = s.n in
    let long : length (drop 40 bytes) ≡ length bytes - 40 = length-drop 40 bytes in
    let lz : length z ≡ 2 * (2 * n) = length-take-le (4 * n) (drop 40 bytes) (omega arith) ∙ omega arith in
    let bz : Bytes z = bytes_take (4 * n) (drop 40 bytes) (bytes_drop 40 bytes b) in
    let bc : Bytes c = bytes_drop (40 + 4 * n) bytes b in
    let parts : z ++ c ≡ drop 40 bytes = ap (λ (xs : List ℕ). z ++ xs) (sym (drop-drop (4 * n) 40 bytes)) ∙ take-append-drop (4 * n) (drop 40 bytes) in
    let tail : z_bytes (z_of z) ++ packed (map code_of (map (coefficient s.p) (unpacked c))) ≡ drop 40 bytes = ap₂ ◌++◌ (z_again z (2 * n) lz bz) (c_again s.p 0 c h bc none) ∙ parts in
    let digest : digest_part bytes ++ drop 40 bytes ≡ drop 8 bytes = ap (λ (xs : List ℕ). digest_part bytes ++ xs) (sym (drop-drop 32 8 bytes)) ∙ take-append-drop 32 (drop 8 bytes) in
    let counter = le2_at bytes 6 b (omega arith) in
    let kind_field = le2_at bytes 4 b (omega arith) in
    let length_field = le4_at bytes 0 b (omega arith) in
    ap₂ (λ (v w : ℕ). le4 v ++ (le2 w ++ (le2 (num2 bytes 6) ++ (digest_part bytes ++ (z_bytes (z_of z) ++ packed (map code_of (map (coefficient s.p) (unpacked c)))))))) (sym len) (sym kin)
    ∙ ap (λ (xs : List ℕ). le4 (num4 bytes 0) ++ (le2 (num2 bytes 4) ++ (le2 (num2 bytes 6) ++ xs))) (ap (λ (xs : List ℕ). digest_part bytes ++ xs) tail ∙ digest)
    ∙ ap (λ (xs : List ℕ). le4 (num4 bytes 0) ++ (le2 (num2 bytes 4) ++ xs)) counter
    ∙ ap (λ (xs : List ℕ). le4 (num4 bytes 0) ++ xs) kind_field
    ∙ length_field
