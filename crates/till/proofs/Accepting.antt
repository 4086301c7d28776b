-- No test hits exactly when the record passes plain verification and its counter is above the last.
use Rattle.std.proofs.Common.{◌≡◌, ℕ, ◌+◌, ◌-◌, ◌*◌, Bool, true, false, eqb, leb, List, [], ◌∷◌, ◌++◌, length, drop, pos, is_ok, Some, None, Ok, Err, Option, Result, sym, refl, ap, ◌∙◌, ap₂, arith}
use Rattle.std.proofs.lemmas.Slice.Eq.{bytes_eq-Decides}
use Rattle.std.proofs.lemmas.List.{length-take-le, length-drop}
use Rattle.std.proofs.lemmas.Bool.{and_parts, and_from, eqb-true, eqb-false, eq-eqb, ne_eqb, leb-false, lt-leb, ltb-false, le-ltb}
use Rattle.std.specs.Str.{bytes_eq}
use Rattle.params.proofs.Facts.{n_quarters}
use Rattle.params.specs.Params.{Params, Sound}
use Rattle.record.proofs.Fields.{length_z, length_unpacked}
use Rattle.record.proofs.Hits.{no_index}
use Rattle.record.specs.Layout.{size, num2, num4, digest_part, z_part, c_part, z_of, unpacked, decode}
use Rattle.refusal.specs.Tests.{unless, at_index, first_hit}
use Rattle.record.specs.Reading.{far, kind_test, reach_test, code_test, record_tests}
use Rattle.record.specs.Reading as reading
use Rattle.record.specs.declared.view.Record.{Record}
use Rattle.refusal.specs.declared.Refusal.{Refusal}
use Rattle.refusal.specs.declared.Refusal.TheVariants.{AreaSize, NotResidue, RecordSize, Kind, OutOfReach, UnusedCode, OtherChallenge, Stale}
use Rattle.refusal.specs.declared.Area.TheVariants.{Public}
use Rattle.search.proofs.Searching.{none_hits, all-miss}
use Rattle.till.proofs.Hits.{hit_first, hit_later, none_first, none_later, both_pass, passed_true, true_passes}
use Rattle.till.specs.Verdict.{Accepts, above, answer, challenge_test, last_after, counter_test, payment, size_test, tests, verdict, word_test}
use Rattle.till.specs.Verification.{content, expected}
use Rattle.till.specs.declared.payment.Payment.{Payment}

module _ (s : Params) (sound : Sound s) (bytes : List ℕ) (sized : length bytes ≡ size s) where
  length-zs : length (z_of (z_part s bytes)) ≡ 2 * s.n
  length-zs =
      let l : length (z_part s bytes) ≡ 4 * s.n = length-take-le (4 * s.n) (drop 40 bytes) (omega (arith, length-drop 40 bytes)) in
      length_z (z_part s bytes) ∙ omega (arith, l)

  length-codes : length (unpacked (c_part s bytes)) ≡ s.n
  length-codes = length_unpacked (c_part s bytes) ∙ omega (arith, length-drop (40 + 4 * s.n) bytes, n_quarters s sound)

abbrev unused : ℕ → Bool
unused code = eqb code 2

module _ (s : Params) (sound : Sound s) (key : List ℕ) (last : Option ℕ) (bytes : List ℕ) where
  abbrev later : List (Option Refusal)
  later = challenge_test s key bytes ∷ counter_test s last bytes ∷ []

  pub none-accepts : first_hit (tests s key last bytes) ≡ None → Accepts s key last bytes
  none-accepts h =
      let t0 = none_first (size_test s key) _ h in
      let h1 = none_later (size_test s key) _ h in
      let t1 = none_first (word_test s key) _ h1 in
      let h2 = none_later (word_test s key) _ h1 in
      let t2 = none_first (reading.size_test s bytes) _ h2 in
      let h3 = none_later (reading.size_test s bytes) _ h2 in
      let t3 = none_first (kind_test s bytes) _ h3 in
      let h4 = none_later (kind_test s bytes) _ h3 in
      let t4 = none_first (reach_test s bytes) _ h4 in
      let h5 = none_later (reach_test s bytes) _ h4 in
      let t5 = none_first (code_test s bytes) _ h5 in
      let h6 = none_later (code_test s bytes) _ h5 in
      let t6 = none_first (challenge_test s key bytes) _ h6 in
      let t7 = none_first (counter_test s last bytes) _ (none_later (challenge_test s key bytes) _ h6) in
      let fields = and_parts (eqb (length bytes) (size s)) (eqb (num4 bytes 0) (size s - 4)) (passed_true _ RecordSize t2) in
      let long : length bytes ≡ size s = eqb-true _ _ fields.0 in
      let words = none_hits 0 (leb s.p) key (no_index (NotResidue Public) _ t1) in
      let near = none_hits (pos 0) (far s) (z_of (z_part s bytes)) (no_index OutOfReach _ t4) in
      let codes = none_hits 0 unused (unpacked (c_part s bytes)) (no_index UnusedCode _ t5) in (
        record { sized = eqb-true _ _ (passed_true _ AreaSize t0); residues = λ k l. leb-false _ _ (words k l) },
        record {
          sized = long;
          length_field = eqb-true _ _ fields.1;
          kind_field = eqb-true _ _ (passed_true _ Kind t3);
          near = λ i l. ltb-false _ _ (near i (omega (arith, length-zs s sound bytes long)));
          coded = λ i l. eqb-false _ 2 (codes i (omega (arith, length-codes s sound bytes long)));
          answers = (bytes_eq-Decides _ _).0 (passed_true _ OtherChallenge t6);
        },
        passed_true _ Stale t7,
      )

  pub accepts-none : Accepts s key last bytes → first_hit (tests s key last bytes) ≡ None
  accepts-none (k, v, c) =
      let long = v.sized in
      both_pass (size_test s key) _ (true_passes _ AreaSize (eq-eqb _ _ k.sized))
      (both_pass (word_test s key) _ (ap (at_index (NotResidue Public)) (all-miss 0 (leb s.p) key (λ i l. lt-leb _ _ (k.residues i l))))
      (both_pass (reading.size_test s bytes) _ (true_passes _ RecordSize (and_from _ _ (eq-eqb _ _ long) (eq-eqb _ _ v.length_field)))
      (both_pass (kind_test s bytes) _ (true_passes _ Kind (eq-eqb _ _ v.kind_field))
      (both_pass (reach_test s bytes) _ (ap (at_index OutOfReach) (all-miss (pos 0) (far s) (z_of (z_part s bytes)) (λ i l. le-ltb _ _ (v.near i (omega (arith, length-zs s sound bytes long))))))
      (both_pass (code_test s bytes) _ (ap (at_index UnusedCode) (all-miss 0 unused (unpacked (c_part s bytes)) (λ i l. ne_eqb _ 2 (v.coded i (omega (arith, length-codes s sound bytes long))))))
      (both_pass (challenge_test s key bytes) _ (true_passes _ OtherChallenge ((bytes_eq-Decides _ _).1 v.answers))
      (both_pass (counter_test s last bytes) [] (true_passes _ Stale c) refl)))))))

  accepted-ok : (o : Option Refusal) (p : Payment) → is_ok (answer o p) ≡ true → o ≡ None
  accepted-ok None p h = refl
  accepted-ok (Some e) p h = absurd (let z : ◌≡◌ {A = ℕ} 0 1 = cc in omega arith)

  pub ok-accepts : (r : Result Payment Refusal) → r ≡ verdict s key last bytes → is_ok r ≡ true → Accepts s key last bytes
  ok-accepts r e h = none-accepts (accepted-ok (first_hit (tests s key last bytes)) (payment s bytes) (sym (ap is_ok e) ∙ h))

  pub accepts-ok : (r : Result Payment Refusal) → r ≡ verdict s key last bytes → Accepts s key last bytes → is_ok r ≡ true
  accepts-ok r e a = ap is_ok e ∙ ap (λ (o : Option Refusal). is_ok (answer o (payment s bytes))) (accepts-none a)

  -- a refusal by the first test that hits, and what it leaves
  pub refused : (r : Result Payment Refusal) (e : Refusal) → r ≡ Err e → first_hit (tests s key last bytes) ≡ Some e → r ≡ verdict s key last bytes
  refused r e p h = p ∙ sym (ap (λ (o : Option Refusal). answer o (payment s bytes)) h)

  pub unchanged : (r : Result Payment Refusal) (e : Refusal) → r ≡ Err e → last ≡ last_after last r
  unchanged r e p = sym (ap (last_after last) p)

  -- the tests of the key, of the record, and the two behind them
  pub key-refused : (e : Refusal) → first_hit (size_test s key ∷ word_test s key ∷ []) ≡ Some e → first_hit (tests s key last bytes) ≡ Some e
  key-refused e h = hit_first (size_test s key ∷ word_test s key ∷ []) (record_tests s bytes ++ later) e h

  module _ (sized : size_test s key ≡ None) (words : word_test s key ≡ None) where
    key-passed : first_hit (tests s key last bytes) ≡ first_hit (record_tests s bytes ++ later)
    key-passed = hit_later (size_test s key ∷ word_test s key ∷ []) (record_tests s bytes ++ later) (both_pass (size_test s key) (word_test s key ∷ []) sized (both_pass (word_test s key) [] words refl))

    pub record-refused : (e : Refusal) → first_hit (record_tests s bytes) ≡ Some e → first_hit (tests s key last bytes) ≡ Some e
    record-refused e h = key-passed ∙ hit_first (record_tests s bytes) later e h

    module _ (read : first_hit (record_tests s bytes) ≡ None) where
      record-passed : first_hit (tests s key last bytes) ≡ first_hit later
      record-passed = key-passed ∙ hit_later (record_tests s bytes) later read

      pub challenge-refused : bytes_eq (expected s key (decode s bytes)) (decode s bytes).c ≡ false → first_hit (tests s key last bytes) ≡ Some OtherChallenge
      challenge-refused h = record-passed ∙ ap (λ (b : Bool). first_hit (unless b OtherChallenge ∷ counter_test s last bytes ∷ [])) h

      module _ (answers : bytes_eq (expected s key (decode s bytes)) (decode s bytes).c ≡ true) where
        challenge-passed : first_hit (tests s key last bytes) ≡ first_hit (counter_test s last bytes ∷ [])
        challenge-passed = record-passed ∙ ap (λ (b : Bool). first_hit (unless b OtherChallenge ∷ counter_test s last bytes ∷ [])) answers

        pub counter-refused : above last (decode s bytes).counter ≡ false → first_hit (tests s key last bytes) ≡ Some Stale
        counter-refused h = challenge-passed ∙ ap (λ (b : Bool). first_hit (unless b Stale ∷ [])) h

        pub taken : above last (decode s bytes).counter ≡ true → (p : Payment) → p ≡ payment s bytes → Ok p ≡ verdict s key last bytes
        taken h p e =
            ap Ok e ∙ sym (ap (λ (o : Option Refusal). answer o (payment s bytes)) (challenge-passed ∙ ap (λ (b : Bool). first_hit (unless b Stale ∷ [])) h))

-- a record that has been read says what its bytes say
pub content_is : (s : Params) (bytes : List ℕ) (r : Record) → r.counter ≡ num2 bytes 6 → r.digest.now ≡ digest_part bytes → r.z.now ≡ z_part s bytes → r.challenge.now ≡ c_part s bytes
    → content s r ≡ decode s bytes
content_is s bytes r a b c d = cc

-- the lengths of the parts of a record that has been read
module _ (s : Params) (sound : Sound s) (bytes : List ℕ) (read : first_hit (record_tests s bytes) ≡ None) where
  long : length bytes ≡ size s
  long = eqb-true _ _ (and_parts (eqb (length bytes) (size s)) (eqb (num4 bytes 0) (size s - 4)) (passed_true _ RecordSize (none_first (reading.size_test s bytes) _ read))).0

  pub length-z-part : (xs : List ℕ) → xs ≡ z_part s bytes → length xs ≡ 4 * s.n
  length-z-part xs e = ap length e ∙ length-take-le (4 * s.n) (drop 40 bytes) (omega (arith, long, length-drop 40 bytes))

  pub length-c_part : (xs : List ℕ) → xs ≡ c_part s bytes → 4 * length xs ≡ s.n
  length-c_part xs e = omega (arith, ap length e, long, length-drop (40 + 4 * s.n) bytes, n_quarters s sound)

pub payment_is : (s : Params) (bytes : List ℕ) (p : Payment) → p.counter ≡ num2 bytes 6 → p.digest ≡ digest_part bytes → p ≡ payment s bytes
payment_is s bytes p a b = let paid : ℕ → List ℕ → Payment = λ counter digest. record { counter = counter; digest = digest } in ap₂ paid a b
