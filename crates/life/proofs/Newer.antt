-- A till takes a card's record exactly when its counter is above all that it took before.
use Rattle.std.proofs.Common.{◌≡◌, ℕ, ◌+◌, Bool, true, false, leb, List, [], ◌∷◌, length, None, Ok, Err, Option, sym, refl, ap, ◌∙◌, subst, arith}
use Rattle.std.specs.List.{AllByRecursion}
use Rattle.std.specs.Str.{bytes_eq}
use Rattle.std.proofs.ByRecursion.{All-append, All-weaker}
use Rattle.std.proofs.lemmas.Slice.Eq.{bytes_eq-Decides}
use Rattle.std.proofs.lemmas.Bool.{eq-eqb, lt-leb}
use Rattle.params.specs.Params.{Params}
use Rattle.refusal.specs.declared.Area.TheVariants.{Public}
use Rattle.refusal.specs.declared.Refusal.{Refusal}
use Rattle.refusal.specs.declared.Refusal.TheVariants.{AreaSize, NotResidue, Stale}
use Rattle.refusal.specs.Tests.{at_index, first_hit}
use Rattle.search.proofs.Searching.{all-miss}
use Rattle.record.specs.Layout.{Content, encode, decode}
use Rattle.record.specs.Reading.{record_tests}
use Rattle.plain.specs.Run.{closed, passes}
use Rattle.till.specs.Verdict.{above, answer, payment, size_test, verdict, word_test}
use Rattle.till.specs.Verification.{PublicKey, expected}
use Rattle.till.proofs.Accepting.{counter-refused, taken}
use Rattle.till.proofs.Hits.{true_passes}
use Rattle.life.specs.declared.call.Call.{Call}
use Rattle.life.specs.declared.call.Call.TheVariants.{Sign, Remask, Report}
use Rattle.life.specs.Life.{Event, MadeCard, CardState, answer_to, moved, life, loaded, record_of, records}
use Rattle.life.specs.Life as life
use Rattle.life.specs.Shown.{last_shown}
use Rattle.life.specs.Laws.{SoundCard, Digested, till_key, payment_of, JudgedByCounter, NewerLaw}
use Rattle.life.proofs.Tills.{down, up}
use Rattle.life.proofs.Turns.{Genuine, turn}
use Rattle.life.proofs.Verify.{public_key, answers, reads_back}

module _ (made : MadeCard) (card : SoundCard made) where
  abbrev s : Params
  s = made.set

  abbrev key : List ℕ
  key = till_key made

  key-sound : PublicKey made.set (till_key made)
  key-sound = public_key made.set card.sound made.key card.a card.s1 card.s2

  key_sized : size_test made.set (till_key made) ≡ None
  key_sized = true_passes _ AreaSize (eq-eqb _ _ key-sound.sized)

  key-words : word_test made.set (till_key made) ≡ None
  key-words = ap (at_index (NotResidue Public)) (all-miss 0 (leb s.p) key (λ i l. lt-leb _ _ (key-sound.residues i l)))

  module _ (digest : List ℕ) (counter : ℕ) (bytes-long : length digest ≡ 32) (r : Content) (g : Genuine made card digest counter r) where
    abbrev bytes : List ℕ
    bytes = encode made.set r

    read : (first_hit (record_tests made.set (encode made.set r)) ≡ None) × (decode made.set (encode made.set r) ≡ r)
    read =
        let R : Content → Type 0 = λ (u : Content). (first_hit (record_tests s (encode s u)) ≡ None) × (decode s (encode s u) ≡ u) in
        let ok : passes s (closed s made.key digest counter g.y) ≡ true = subst (λ (u : Content). passes s u ≡ true) g.is g.ok in
        subst R (sym g.is) (reads_back s card.sound made.key card.a card.s1 card.s2 digest counter g.y g.long g.small bytes-long ok)

    expects : expected made.set (till_key made) r ≡ r.c
    expects = subst (λ (u : Content). expected s key u ≡ u.c) (sym g.is) (answers s card.sound made.key card.a card.s1 card.s2 digest counter g.y g.long)

    same-challenge : bytes_eq (expected made.set (till_key made) (decode made.set bytes)) (decode made.set bytes).c ≡ true
    same-challenge = (bytes_eq-Decides _ _).1 (subst (λ (u : Content). expected s key u ≡ u.c) (sym read.1) expects)

    paid : payment made.set bytes ≡ payment_of r
    paid = ap payment_of read.1

    module _ (last : Option ℕ) where
      -- its counter alone decides
      takes : above last r.counter ≡ true → verdict made.set (till_key made) last bytes ≡ Ok (payment_of r)
      takes h =
          sym (taken s card.sound key last bytes key_sized key-words read.0 same-challenge (ap (λ (u : Content). above last u.counter) read.1 ∙ h) (payment_of r) (sym paid))

      refuses : above last r.counter ≡ false → verdict made.set (till_key made) last bytes ≡ Err Stale
      refuses h =
          ap (λ (o : Option Refusal). answer o (payment s bytes))
          (counter-refused s card.sound key last bytes key_sized key-words read.0 same-challenge (ap (λ (u : Content). above last u.counter) read.1 ∙ h))

      accepted-above : (b : Bool) → above last r.counter ≡ b → verdict made.set (till_key made) last bytes ≡ Ok (payment_of r) → above last r.counter ≡ true
      accepted-above true e v = e
      accepted-above false e v = absurd (let w = refuses e in let z : ◌≡◌ {A = ℕ} 0 1 = cc in omega arith)

      refused-below : (b : Bool) → above last r.counter ≡ b → (above last r.counter ≡ true → ⊥) → verdict made.set (till_key made) last bytes ≡ Err Stale
      refused-below true e f = absurd (f e)
      refused-below false e f = refuses e

    judged : (before : List (List ℕ)) → JudgedByCounter made r before
    judged before =
        let last = last_shown s key None before in
        let b = above last r.counter in
        record {
          accepts = (
            λ v. down s card.sound key r.counter before (accepted-above last b refl v),
            λ q. takes last (up s card.sound key r.counter before q),
          );
          refuses = λ f. refused-below last b refl (λ h. f (down s card.sound key r.counter before h));
        }

  abbrev Judged : Content → Type 0
  Judged r = (before : List (List ℕ)) → JudgedByCounter made r before

  -- only a sign makes records, and its digest has 32 bytes
  all-judged : (c : CardState) (call : Call) (fits : Bool) → Digested call → AllByRecursion Judged (record_of (answer_to made c call fits))
  all-judged c (Sign digest tries) fits d =
      All-weaker (Genuine made card digest (c.counter + 1)) Judged (judged digest (c.counter + 1) d) (record_of (answer_to made c (Sign digest tries) fits)) (turn made card c (Sign digest tries) fits).genuine
  all-judged c Remask fits d = tt
  all-judged c Report fits d = tt

  lives-judged : (events : List Event) (c : CardState) → AllByRecursion (λ (e : Event). Digested e.call) events → AllByRecursion Judged (records (life.life made c events))
  lives-judged [] c d = tt
  lives-judged (e ∷ events) c d =
      All-append Judged (record_of (life.answer made c e)) (records (life.life made (moved made c e) events)) (all-judged c e.call e.fits d.0) (lives-judged events (moved made c e) d.1)

pub newer_law : NewerLaw
newer_law made card nonces masks events d = lives-judged made card events (loaded nonces masks) d
