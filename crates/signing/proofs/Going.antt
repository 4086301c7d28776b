-- A signing part of the way: so many attempts were rejected.
use Rattle.std.proofs.Common.{◌≡◌, ℕ, ◌+◌, ◌-◌, ◌*◌, ◌/◌, ◌<◌, ◌≤◌, leb, List, [], ◌∷◌, ◌++◌, length, Ok, Err, sym, refl, ap, ◌∙◌, append_assoc, add-zero, mul-zero, mul-add, arith, length-append, le-leb}
use native.Mathlib.Nat.{div-eq_of_lt, mul-add-div}
use borrow.Author.Tests.{lt-leb}
use Rattle.std.proofs.lemmas.List.{length_push}
use Rattle.params.specs.Params.{Params}
use Rattle.words.specs.Flow.{Flow}
use Rattle.words.specs.Spending.{Spent}
use Rattle.words.proofs.Spendings.{spent_as, spent_none, spent_then}
use Rattle.plain.specs.Nonces.{whole}
use Rattle.plain.specs.Run.{Attempt, Run, Setting, Outcome, all_failed, signed, rejected, after_rejected, choose, run, stop}
use Rattle.plain.proofs.Paths.{choose_is, choose_not}
use Rattle.drawing.specs.Resume.{Subject, setting_of, resume, Fits, Stops}
use Rattle.drawing.proofs.Resuming.{wanting}
use Rattle.attempt.specs.Attempt.{Passed, Rejected}
use Rattle.attempt.specs.Stages.{outcome_of, attempt_of}
use Rattle.attempt.specs.Stages as stages
use Rattle.refusal.specs.declared.fault.Fault.{Fault}
use Rattle.steps.specs.declared.Ended.{Ended}
use Rattle.signing.specs.declared.failure.Failure.TheVariants.{Halted, TriesFailed}
use Rattle.signing.specs.Signing.{Follows, plain_run, supply_of}

-- rejected attempts, and the run that follows them
abbrev after : List Attempt → Run → Run
after past r = record { outcome = r.outcome; attempts = past ++ r.attempts; seen = r.seen; drawn = r.drawn; spent = r.spent; left = r.left }

-- attempt `number` is to come
pub record Going (s : Params) (m : ℕ) (u : Subject) (tries : ℕ) (n f : Flow) (number : ℕ) (n₁ f₁ : Flow) : Type 0 where
  pub past : List Attempt
  pub count : length past + 1 ≡ number
  pub within : number ≤ tries
  pub seen : ℕ
  pub spent : ℕ
  pub nonces : Spent (m * seen) n n₁
  pub masks : Spent spent f f₁
  pub fits : Fits (supply_of m n f) m spent n₁ f₁
  pub goes : plain_run s m u tries n f ≡ after past (resume (setting_of s m u (supply_of m n f)) (tries - number) number [] [] seen spent n₁.words)

module _ (s : Params) (m : ℕ) (pos : 0 < m) (some : 0 < s.n) (u : Subject) (tries : ℕ) (n f : Flow) where
  abbrev e : Setting
  e = setting_of s m u (supply_of m n f)

  pub going-first : 0 < tries → Going s m u tries n f 1 n f
  going-first h = record {
    past = [];
    count = refl;
    within = omega arith;
    seen = 0;
    spent = 0;
    nonces = spent_as (spent_none n) (sym (mul-zero m));
    masks = spent_none f;
    fits = record { cut = refl; nonce_mark = refl; mask_mark = refl; mask_count = omega arith };
    goes = sym (wanting s m pos u (supply_of m n f) (tries - 1) 1 [] [] 0 0 n.words (omega arith));
  }

  module _ (number : ℕ) (n₁ f₁ : Flow) (g : Going s m u tries n f number n₁ f₁) where
    -- the run stops in this attempt
    module _ (o : ℕ → Outcome) (n₂ f₂ : Flow) (q : Stops s m u [] [] o n₁ n₂ f₁ f₂) where
      abbrev end : Run
      end = stop e (o number) q.words q.fate (g.seen + q.seen) q.extra (g.spent + q.spent) n₂.words

      stopped : plain_run s m u tries n f ≡ after g.past (stop e (o number) q.words q.fate (g.seen + q.seen) q.extra (g.spent + q.spent) n₂.words)
      stopped = g.goes ∙ ap (after g.past) (q.goes (supply_of m n f) (tries - number) number g.seen g.spent g.fits)

      pub stopped-outcome : (plain_run s m u tries n f).outcome ≡ o number
      stopped-outcome = ap (λ (r : Run). r.outcome) stopped

      pub stopped-begun : length (plain_run s m u tries n f).attempts ≡ number
      stopped-begun = ap (λ (r : Run). length r.attempts) stopped ∙ length-append g.past end.attempts ∙ g.count

      pub stopped-nonces : Spent (plain_run s m u tries n f).drawn n n₂
      stopped-nonces = spent_as (spent_then g.nonces q.nonces) (let k = mul-add m g.seen q.seen in let t = ap (λ (r : Run). r.drawn) stopped in omega arith)

      pub stopped-masks : Spent (plain_run s m u tries n f).spent f f₂
      stopped-masks = spent_as (spent_then g.masks q.masks) (sym (ap (λ (r : Run). r.spent) stopped))

      pub stopped-left : (plain_run s m u tries n f).left ≡ n₂.words
      stopped-left = ap (λ (r : Run). r.left) stopped

      pub stopped-seen : (plain_run s m u tries n f).seen ≡ (plain_run s m u tries n f).drawn / m
      stopped-seen =
          let k = g.seen + q.seen in
          ap (λ (r : Run). r.seen) stopped
          ∙ sym (ap (λ (r : Run). r.drawn / m) stopped ∙ mul-add-div pos k q.extra ∙ ap (λ (t : ℕ). k + t) (div-eq_of_lt q.few) ∙ add-zero k)

    pub ends-signed : (bytes bytes' : List ℕ) (n₂ f₂ : Flow) → Passed s m u bytes' n₁ n₂ f₁ f₂ → Follows s m tries (Ok number) bytes bytes' n n₂ f f₂ (plain_run s m u tries n f)
    ends-signed bytes bytes' n₂ f₂ p =
        let o : ℕ → Outcome = λ a. signed p.content in
        let q = p.stops in
        record {
          ends = record { content = p.content; outcome = stopped-outcome o n₂ f₂ q; written = p.written; begun = stopped-begun o n₂ f₂ q };
          nonces = stopped-nonces o n₂ f₂ q;
          masks = stopped-masks o n₂ f₂ q;
          left = stopped-left o n₂ f₂ q;
          seen = stopped-seen o n₂ f₂ q;
        }

    pub ends-halted : (t : Ended Fault) (bytes bytes' : List ℕ) (n₂ f₂ : Flow) → bytes' ≡ bytes → stages.Halted s m u number t n₁ n₂ f₁ f₂ → Follows s m tries (Err (Halted t)) bytes bytes' n n₂ f f₂ (plain_run s m u tries n f)
    ends-halted t bytes bytes' n₂ f₂ same h =
        let o = h.outcome in
        let q = h.stops in
        record {
          ends = (stopped-outcome o n₂ f₂ q ∙ sym h.is, same, stopped-begun o n₂ f₂ q ∙ sym h.told);
          nonces = stopped-nonces o n₂ f₂ q;
          masks = stopped-masks o n₂ f₂ q;
          left = stopped-left o n₂ f₂ q;
          seen = stopped-seen o n₂ f₂ q;
        }

    -- the attempt is rejected
    module _ (n₂ f₂ : Flow) (q : Rejected s m u n₁ n₂ f₁ f₂) where
      abbrev turned : Run → Run → Run
      turned r r' = choose (leb (tries - number) 0) r r'

      goes_on : resume (setting_of s m u (supply_of m n f)) (tries - number) number [] [] g.seen g.spent n₁.words
          ≡ choose (leb (tries - number) 0) (stop (setting_of s m u (supply_of m n f)) all_failed q.words (rejected q.content) (g.seen + q.seen) 0 (g.spent + q.spent) n₂.words)
          (after_rejected q.words q.content (run (setting_of s m u (supply_of m n f)) (tries - number - 1) (number + 1) [] [] (g.seen + q.seen) (g.spent + q.spent) (whole m n₂.words)))
      goes_on = q.goes (supply_of m n f) (tries - number) number g.seen g.spent g.fits

      -- so the run stops like any other
      failed : number ≡ tries → plain_run s m u tries n f ≡ after g.past (stop e all_failed q.words (rejected q.content) (g.seen + q.seen) 0 (g.spent + q.spent) n₂.words)
      failed last = g.goes ∙ ap (after g.past) (goes_on ∙ choose_is _ _ _ (le-leb _ _ (omega arith)))

      pub ends-failed : (bytes bytes' : List ℕ) → number ≡ tries → bytes' ≡ bytes → Follows s m tries (Err TriesFailed) bytes bytes' n n₂ f f₂ (plain_run s m u tries n f)
      ends-failed bytes bytes' last same =
          let k = g.seen + q.seen in
          let t = failed last in
          let end = stop e all_failed q.words (rejected q.content) k 0 (g.spent + q.spent) n₂.words in
          record {
            ends = (ap (λ (r : Run). r.outcome) t, same, ap (λ (r : Run). length r.attempts) t ∙ length-append g.past end.attempts ∙ g.count ∙ last);
            nonces = spent_as (spent_then g.nonces q.nonces) (let l = mul-add m g.seen q.seen in let w = ap (λ (r : Run). r.drawn) t in omega arith);
            masks = spent_as (spent_then g.masks q.masks) (sym (ap (λ (r : Run). r.spent) t));
            left = ap (λ (r : Run). r.left) t;
            seen = ap (λ (r : Run). r.seen) t ∙ sym (ap (λ (r : Run). r.drawn / m) t ∙ mul-add-div pos k 0 ∙ ap (λ (t : ℕ). k + t) (div-eq_of_lt pos) ∙ add-zero k);
          }

      pub going_more : number < tries → Going s m u tries n f (number + 1) n₂ f₂
      going_more more =
          let x : Attempt = record { words = q.words; fate = rejected q.content } in
          let one_less : tries - number - 1 ≡ tries - (number + 1) = omega arith in
          record {
            past = g.past ++ x ∷ [];
            count = (let c = g.count in let l = length_push g.past x in omega arith);
            within = omega arith;
            seen = g.seen + q.seen;
            spent = g.spent + q.spent;
            nonces = spent_as (spent_then g.nonces q.nonces) (let l = mul-add m g.seen q.seen in omega arith);
            masks = spent_then g.masks q.masks;
            fits = q.fits (supply_of m n f) g.spent g.fits;
            goes =
                let next = run e (tries - (number + 1)) (number + 1) [] [] (g.seen + q.seen) (g.spent + q.spent) (whole m n₂.words) in
                g.goes
                ∙ ap (after g.past) (goes_on ∙ choose_not _ _ _ (lt-leb _ _ (omega arith)))
                ∙ ap (λ (k : ℕ). after g.past (after_rejected q.words q.content (run e k (number + 1) [] [] (g.seen + q.seen) (g.spent + q.spent) (whole m n₂.words)))) one_less
                ∙ ap (λ (xs : List Attempt). record { outcome = next.outcome; attempts = xs; seen = next.seen; drawn = next.drawn; spent = next.spent; left = next.left }) (sym (append_assoc g.past (x ∷ []) next.attempts))
                ∙ ap (after (g.past ++ x ∷ [])) (sym (wanting s m pos u (supply_of m n f) (tries - (number + 1)) (number + 1) [] [] (g.seen + q.seen) (g.spent + q.spent) n₂.words (omega arith)));
          }
