-- Two cards that differ in their shares alone.
use Rattle.std.proofs.Common.{◌≡◌, ℕ, zero, suc, ◌<◌, Bool, true, false, cond, leb, List, [], ◌∷◌, map, length, take, Some, None, Ok, Err, Option, sym, refl, ap, ◌∙◌, ap₂, arith}
use Rattle.std.proofs.lemmas.Bool.{both_ways}
use Rattle.words.specs.declared.Mark.{Mark}
use Rattle.refusal.specs.declared.Refusal.{Refusal}
use Rattle.refusal.specs.declared.Refusal.TheVariants.{MasksEnded}
use Rattle.refusal.specs.declared.fault.Counts.{Counts}
use Rattle.refusal.specs.Tests.{first_hit}
use Rattle.plain.specs.Nonces.{candidates}
use Rattle.plain.specs.Run.{Outcome, signed, nonces_ended, masks_ended, all_failed, Run}
use Rattle.plain.specs.Laws.{short_of_masks, Agree}
use Rattle.plain.proofs.Twins.{signs-alike}
use Rattle.life.specs.declared.call.Call.{Call}
use Rattle.life.specs.declared.call.Call.TheVariants.{Sign, Remask, Report}
use Rattle.life.specs.Life.{Event, MadeCard, CardState, Answer, remasked, loaded, sign_tests, sign_answer, after_sign, run_of, remask_words, answer_to, after_call, moved}
use Rattle.life.specs.Life as life
use Rattle.card.specs.Sign.{answer_of, counter_after, record_after}
use Rattle.life.specs.Laws.{Told, of_sign, of_report, told, refusal_in, for_masks, MasksLast, with_shares, AlikeLaw}

-- a run has refusal 22 exactly where it is short of masks
masks_end : (o : Outcome) (counts : Counts) (bytes : List ℕ) → for_masks (refusal_in (of_sign (answer_of o counts) bytes)) ≡ short_of_masks o
masks_end (signed r) counts bytes = refl
masks_end (nonces_ended f) counts bytes = refl
masks_end (masks_ended f) counts bytes = refl
masks_end all_failed counts bytes = refl

module _ (made : MadeCard) (m : ℕ) (some : 0 < made.shares) (some' : 0 < m) where
  abbrev other : MadeCard
  other = with_shares m made

  abbrev Lasts : Answer → Type 0
  Lasts x = for_masks (refusal_in (told made.set x)) ≡ false

  -- both cards stand alike
  record Twin (c c' : CardState) : Type 0 where
    pub counters : c.counter ≡ c'.counter
    pub marks : c.nonces.mark ≡ c'.nonces.mark
    pub to-come : candidates made.set made.shares c.nonces.words ≡ candidates made.set m c'.nonces.words

  -- they answer alike and then stand alike, unless the masks of one end
  record Next (x x' : Answer) (d d' : CardState) : Type 0 where
    pub tells : told made.set x ≡ told made.set x'
    pub twins : Twin d d'

  module _ (c c' : CardState) (twin : Twin c c') where
    module _ (digest : List ℕ) (tries : ℕ) where
      abbrev r : Run
      r = run_of made c digest tries

      abbrev r' : Run
      r' = run_of (with_shares m made) c' digest tries

      sign-next : (o o' : Option Refusal) → o ≡ o' → Lasts (sign_answer o r) → Lasts (sign_answer o' r') → Next (sign_answer o r) (sign_answer o' r') (after_sign o c r) (after_sign o' c' r')
      sign-next None None e h h' =
          let agree : Agree made.set made.shares m r r' =
          signs-alike made.set made.key made.shares m some some' digest c.counter c'.counter twin.counters c.nonces c.masks c'.nonces c'.masks twin.marks tries twin.to-come
          (sym (masks_end r.outcome _ _) ∙ h)
          (sym (masks_end r'.outcome _ _) ∙ h') in
          let tell : Outcome → ℕ → ℕ → Told = λ o attempts seen. of_sign (answer_of o (record { attempts = attempts; candidates = seen; nonces = 0; masks = 0 })) (record_after made.set o []) in
          record {
            tells = ap₂ (λ (o : Outcome) (k : ℕ). tell o k r.seen) agree.outcome agree.attempts ∙ ap (tell r'.outcome (length r'.attempts)) agree.seen;
            twins = record { counters = ap₂ counter_after agree.outcome twin.counters; marks = twin.marks; to-come = agree.left };
          }
      sign-next (Some e) (Some e') q h h' = let same : e ≡ e' = cc in record { tells = ap (λ (u : Refusal). of_sign (Err u) []) same; twins = twin }
      sign-next None (Some e') q h h' = absurd (let z : ◌≡◌ {A = ℕ} 0 1 = cc in omega arith)
      sign-next (Some e) None q h h' = absurd (let z : ◌≡◌ {A = ℕ} 0 1 = cc in omega arith)

    remask-tells : (b b' : Bool) (k k' : ℕ) (e e' : Mark) → Lasts (remasked (cond b (Ok k) (Err (MasksEnded e)))) → Lasts (remasked (cond b' (Ok k') (Err (MasksEnded e')))) →
        told made.set (remasked (cond b (Ok k) (Err (MasksEnded e)))) ≡ told made.set (remasked (cond b' (Ok k') (Err (MasksEnded e'))))
    remask-tells true true k k' e e' h h' = refl
    remask-tells true false k k' e e' h h' = absurd (both_ways true h' refl)
    remask-tells false b' k k' e e' h h' = absurd (both_ways true h refl)

    remask-twins : (fits : Bool) → Twin (after_call made c Remask fits) (after_call (with_shares m made) c' Remask fits)
    remask-twins fits = record { counters = twin.counters; marks = twin.marks; to-come = twin.to-come }

    next : (call : Call) (fits : Bool) → Lasts (answer_to made c call fits) → Lasts (answer_to (with_shares m made) c' call fits) →
        Next (answer_to made c call fits) (answer_to (with_shares m made) c' call fits) (after_call made c call fits) (after_call (with_shares m made) c' call fits)
    next (Sign digest tries) fits =
        sign-next digest tries (first_hit (sign_tests c.counter tries fits)) (first_hit (sign_tests c'.counter tries fits)) (ap (λ (k : ℕ). first_hit (sign_tests k tries fits)) twin.counters)
    next Remask true = λ h h'. record {
      tells = remask-tells (leb (remask_words made) (length c.masks.words)) (leb (remask_words other) (length c'.masks.words)) (remask_words made) (remask_words other) c.masks.mark c'.masks.mark h h';
      twins = remask-twins true;
    }
    next Remask false = λ h h'. record { tells = refl; twins = remask-twins false }
    next Report fits = λ h h'. record { tells = ap of_report twin.counters; twins = twin }

  lives-alike : (events : List Event) (j : ℕ) (c c' : CardState) → Twin c c' →
      MasksLast made.set (take j (life.life made c events)) → MasksLast made.set (take j (life.life (with_shares m made) c' events)) →
      map (told made.set) (take j (life.life made c events)) ≡ map (told made.set) (take j (life.life (with_shares m made) c' events))
  lives-alike events zero c c' twin h h' = refl
  lives-alike [] (suc j) c c' twin h h' = refl
  lives-alike (e ∷ events) (suc j) c c' twin h h' =
      let n = next c c' twin e.call e.fits h.0 h'.0 in
      ap₂ (λ (t : Told) (ts : List Told). t ∷ ts) n.tells (lives-alike events j (moved made c e) (moved other c' e) n.twins h.1 h'.1)

pub alike_law : AlikeLaw
alike_law made m card card' nonces masks nonces' masks' e k events j =
    lives-alike made m card.some card'.some events j (loaded nonces masks) (loaded nonces' masks') (record { counters = refl; marks = k; to-come = e })
