-- What the writer writes of a proper content, the reader reads.
use Rattle.std.proofs.Common.{◌≡◌, ℕ, zero, suc, ◌+◌, ◌-◌, ◌*◌, ◌/◌, ◌%◌, ◌^◌, ◌<◌, ◌≤◌, Bool, false, eqb, ltb, List, [], ◌∷◌, ◌++◌, map, length, take, drop, ℤ, pos, negsuc, nat_abs, None, sym, refl, ap, ◌∙◌, ap₂, inl, inr, arith, w16, Fits, SFits, to_z, of_z}
use mir.Facts.{Fits-of_z}
use Rattle.std.proofs.ByRecursion.{All-map, All-weaker}
use Rattle.std.proofs.lemmas.List.{drop_at, drop-drop, length-append, length-map, take_at}
use Rattle.std.proofs.lemmas.Int.{to_z-of_z}
use Rattle.std.proofs.lemmas.Bool.{and_from, cond-false, eq-eqb, le-ltb}
use Rattle.std.specs.List.{AllByRecursion}
use Rattle.params.proofs.Facts.{n_quarters}
use Rattle.params.specs.Params.{Params, Sound, reach}
use Rattle.refusal.specs.declared.Refusal.TheVariants.{RecordSize, Kind, OutOfReach, UnusedCode}
use Rattle.record.proofs.Hits.{passes}
use Rattle.record.specs.Layout.{Content, size, kind, num2, num4, z_bytes, z_of, code_of, coefficient, packed, unpacked, z_part, c_part, encode, decode}
use Rattle.refusal.specs.Tests.{at_index, first_hit, unless}
use Rattle.record.specs.Reading.{far, size_test, kind_test, reach_test, code_test, record_tests}
use Rattle.search.specs.First.{first_from, first_at}
use Rattle.record.specs.Writing.{Proper, Ternary, content_of}

-- a number from its bytes
two_bytes : (v : ℕ) → v < 65536 → v % 256 + v / 256 % 256 * 256 ≡ v
two_bytes v h = omega arith

four_bytes : (v : ℕ) → v < 4294967296 → v % 256 + v / 256 % 256 * 256 + v / 65536 % 256 * 65536 + v / 16777216 % 256 * 16777216 ≡ v
four_bytes v h =
    let b : v / 256 ≡ v / 256 % 256 + 256 * (v / 256 / 256) = omega arith in
    let c : v / 256 / 256 ≡ v / 65536 = omega arith in
    let d : v / 65536 ≡ v / 65536 % 256 + 256 * (v / 65536 / 256) = omega arith in
    let e : v / 65536 / 256 ≡ v / 16777216 = omega arith in
    let f : v / 16777216 % 256 ≡ v / 16777216 = omega arith in
    omega arith

-- coefficients of z
near_fits : (z : ℤ) (k : ℕ) → k < 2 ^ 15 → nat_abs z ≤ k → SFits w16 z
near_fits (pos m) k h l = record { sfits = omega arith }
near_fits (negsuc m) k h l = record { sfits = omega arith }

z_back : (zs : List ℤ) → AllByRecursion (SFits w16) zs → z_of (z_bytes zs) ≡ zs
z_back [] h = refl
z_back (z ∷ zs) h =
    let f : Fits w16 (of_z w16 z) = Fits-of_z h.0 in
    ap₂ (λ (x : ℤ) (xs : List ℤ). x ∷ xs) (ap (to_z w16) (two_bytes (of_z w16 z) (omega arith)) ∙ to_z-of_z w16 z h.0) (z_back zs h.1)

length_z_bytes : (zs : List ℤ) → length (z_bytes zs) ≡ 2 * length zs
length_z_bytes [] = refl
length_z_bytes (z ∷ zs) = ap (λ (k : ℕ). suc (suc k)) (length_z_bytes zs) ∙ omega arith

-- codes of the challenge
codes_back : (cs : List ℕ) (k : ℕ) → length cs ≡ 4 * k → AllByRecursion (λ v. v < 4) cs → unpacked (packed cs) ≡ cs
codes_back [] k e h = refl
codes_back (a ∷ []) k e h = absurd (omega arith)
codes_back (a ∷ b ∷ []) k e h = absurd (omega arith)
codes_back (a ∷ b ∷ c ∷ []) k e h = absurd (omega arith)
codes_back (a ∷ b ∷ c ∷ d ∷ cs) zero e h = absurd (omega arith)
codes_back (a ∷ b ∷ c ∷ d ∷ cs) (suc k) e h =
    let la : a < 4 = h.0 in
    let lb : b < 4 = h.1.0 in
    let lc : c < 4 = h.1.1.0 in
    let ld : d < 4 = h.1.1.1.0 in
    let v : ℕ = a + 4 * b + 16 * c + 64 * d in
    let e0 : v % 4 ≡ a = omega arith in
    let q1 : v / 4 ≡ b + 4 * c + 16 * d = omega arith in
    let e1 : v / 4 % 4 ≡ b = ap (λ (x : ℕ). x % 4) q1 ∙ omega arith in
    let q2 : v / 16 ≡ c + 4 * d = omega arith in
    let e2 : v / 16 % 4 ≡ c = ap (λ (x : ℕ). x % 4) q2 ∙ omega arith in
    let q3 : v / 64 ≡ d = omega arith in
    let e3 : v / 64 % 4 ≡ d = ap (λ (x : ℕ). x % 4) q3 ∙ omega arith in
    let rest : unpacked (packed cs) ≡ cs = codes_back cs k (omega arith) h.1.1.1.1 in
    cc

length_packed : (cs : List ℕ) → length (packed cs) ≡ length cs / 4
length_packed [] = refl
length_packed (a ∷ []) = refl
length_packed (a ∷ b ∷ []) = refl
length_packed (a ∷ b ∷ c ∷ []) = refl
length_packed (a ∷ b ∷ c ∷ d ∷ cs) = ap suc (length_packed cs) ∙ omega arith

-- a residue's code fits its bits, is used, and means the residue
record Coded (p v : ℕ) : Type 0 where
  fits : code_of v < 4
  used : eqb (code_of v) 2 ≡ false
  means : coefficient p (code_of v) ≡ v

coded : (s : Params) → 2 < s.p → (v : ℕ) → Ternary s v → Coded s.p v
coded s h v (inl e) =
    let k : code_of v ≡ 0 = ap (λ (x : ℕ). code_of x) e in
    record { fits = omega arith; used = ap (λ (x : ℕ). eqb x 2) k; means = ap (coefficient s.p) k ∙ sym e }
coded s h v (inr (inl e)) =
    let k : code_of v ≡ 1 = ap (λ (x : ℕ). code_of x) e in
    record { fits = omega arith; used = ap (λ (x : ℕ). eqb x 2) k; means = ap (coefficient s.p) k ∙ sym e }
coded s h v (inr (inr e)) =
    let k : code_of v ≡ 3 = ap (λ (x : ℕ). code_of x) e ∙ cond-false (ltb (s.p - 1) 2) (s.p - 1) 3 (le-ltb (s.p - 1) 2 (omega arith)) in
    record { fits = omega arith; used = ap (λ (x : ℕ). eqb x 2) k; means = ap (coefficient s.p) k ∙ sym e }

residues_back : (p : ℕ) (cs : List ℕ) → AllByRecursion (Coded p) cs → map (coefficient p) (map code_of cs) ≡ cs
residues_back p [] h = refl
residues_back p (v ∷ cs) h = ap₂ (λ (x : ℕ) (xs : List ℕ). x ∷ xs) h.0.means (residues_back p cs h.1)

-- where each misses, nothing is found
none_found : {A : Type 0} (test : A → Bool) (i : ℕ) (xs : List A) → AllByRecursion (λ x. test x ≡ false) xs → first_from test i xs ≡ None
none_found test i [] h = refl
none_found test i (x ∷ xs) h = cond-false (test x) _ _ h.0 ∙ none_found test (i + 1) xs h.1

same_content : (r : Content) (counter : ℕ) (digest : List ℕ) (z : List ℤ) (c : List ℕ) → counter ≡ r.counter → digest ≡ r.digest → z ≡ r.z → c ≡ r.c → content_of counter digest z c ≡ r
same_content r counter digest z c e f g h =
    ap₂ (λ (x : ℕ) (y : List ℕ). content_of x y z c) e f ∙ ap₂ (λ (x : List ℤ) (y : List ℕ). content_of r.counter r.digest x y) g h

pub read_back : (s : Params) → Sound s → (r : Content) → r.counter < 65536 → length r.digest ≡ 32 → length r.z ≡ 2 * s.n → length r.c ≡ s.n → Proper s r
    → (first_hit (record_tests s (encode s r)) ≡ None) × (decode s (encode s r) ≡ r)
read_back s sound r small ld lz lc proper =
    let n = s.n in
    let bytes = encode s r in
    let codes : List ℕ = map code_of r.c in
    let tail : List ℕ = z_bytes r.z ++ packed codes in
    let lzb : length (z_bytes r.z) ≡ 4 * n = length_z_bytes r.z ∙ omega arith in
    let behind : drop 40 bytes ≡ tail = sym (drop-drop 32 8 bytes) ∙ drop_at r.digest tail 32 ld in
    let zp : z_part s bytes ≡ z_bytes r.z = ap (take (4 * n)) behind ∙ take_at (z_bytes r.z) (packed codes) (4 * n) lzb in
    let cp : c_part s bytes ≡ packed codes = sym (drop-drop (4 * n) 40 bytes) ∙ ap (drop (4 * n)) behind ∙ drop_at (z_bytes r.z) (packed codes) (4 * n) lzb in
    let all_coded : AllByRecursion (Coded s.p) r.c = All-weaker (Ternary s) (Coded s.p) (coded s (omega (arith, sound.k_below_p, sound.alpha_below_k, sound.alpha_some))) r.c proper.ternary in
    let z_of-part : z_of (z_part s bytes) ≡ r.z =
    ap z_of zp ∙ z_back r.z (All-weaker (λ z. nat_abs z ≤ reach s) (SFits w16) (λ z. near_fits z (reach s) sound.reach_small) r.z proper.near) in
    let codes-of-part : unpacked (c_part s bytes) ≡ codes =
    ap unpacked cp ∙ codes_back codes (n / 4) (omega (arith, length-map r.c code_of, n_quarters s sound)) (All-map (λ v. v < 4) code_of r.c (All-weaker (Coded s.p) (λ v. code_of v < 4) (λ v h. h.fits) r.c all_coded)) in
    let whole : length bytes ≡ size s =
    omega (arith, length-append r.digest tail, length-append (z_bytes r.z) (packed codes), length_packed codes, length-map r.c code_of) in
    let passes-size : size_test s bytes ≡ None =
    ap (λ (b : Bool). unless b RecordSize) (and_from _ _ (eq-eqb (length bytes) (size s) whole) (eq-eqb (num4 bytes 0) (size s - 4) (four_bytes (size s - 4) (omega (arith, sound.n_most))))) in
    let passes-kind : kind_test s bytes ≡ None = ap (λ (b : Bool). unless b Kind) (eq-eqb (num2 bytes 4) (kind s) (two_bytes (kind s) (omega (arith, sound.number_byte)))) in
    let passes-reach : reach_test s bytes ≡ None =
    ap (at_index OutOfReach) (ap (first_at (far s)) z_of-part
    ∙ none_found (far s) 0 r.z (All-weaker (λ z. nat_abs z ≤ reach s) (λ z. far s z ≡ false) (λ z. le-ltb (reach s) (nat_abs z)) r.z proper.near)) in
    let unused : ℕ → Bool = λ (code : ℕ). eqb code 2 in
    let passes-code : code_test s bytes ≡ None =
    ap (at_index UnusedCode) (ap (first_at unused) codes-of-part
    ∙ none_found unused 0 codes (All-map (λ code. unused code ≡ false) code_of r.c (All-weaker (Coded s.p) (λ v. unused (code_of v) ≡ false) (λ v h. h.used) r.c all_coded))) in (
      passes (size_test s bytes) _ passes-size ∙ passes (kind_test s bytes) _ passes-kind ∙ passes (reach_test s bytes) _ passes-reach ∙ passes (code_test s bytes) _ passes-code,
      same_content r _ _ _ _ (two_bytes r.counter small) (take_at r.digest tail 32 ld) z_of-part (ap (map (coefficient s.p)) codes-of-part ∙ residues_back s.p r.c all_coded),
    )
