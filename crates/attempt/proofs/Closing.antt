-- The ends of an attempt, by its stages.
use Rattle.std.proofs.Common.{◌≡◌, ℕ, ◌+◌, ◌*◌, ◌<◌, Bool, true, false, ◌⊎◌, List, [], length, ℤ, Ok, Err, Result, sym, refl, ap, ◌∙◌, ap₂, inl, inr}
use Rattle.params.specs.Params.{Params}
use Rattle.words.specs.Flow.{Flow}
use Rattle.words.specs.Spending.{Spent}
use Rattle.refusal.specs.declared.fault.Step.{Step}
use Rattle.refusal.specs.declared.fault.Step.TheVariants.{Commit, Check, Open}
use Rattle.record.specs.Layout.{Content, encode}
use Rattle.record.specs.Reading.{all_near}
use Rattle.record.specs.Writing.{content_of}
use Rattle.challenge.specs.Challenge.{challenge}
use Rattle.polys.specs.Area.{recombined}
use Rattle.polys.proofs.Places.{recombined-long}
use Rattle.plain.specs.Costs.{cost}
use Rattle.plain.specs.Run.{masks_ended, closed}
use Rattle.drawing.specs.Resume.{Subject, Stops}
use Rattle.drawing.specs.Drawing.{Drawing}
use Rattle.refusal.specs.declared.fault.Fault.{Fault}
use Rattle.steps.specs.declared.Ended.{Ended}
use Rattle.attempt.specs.declared.stage.Committed.{Committed}
use Rattle.attempt.specs.declared.stage.Drawn.{Drawn}
use Rattle.attempt.specs.Stages.{Begins, Closes, ClosesBy, Commits, Halted, ShortOf, answer_to, attempt_of, commitment_to, outcome_of}
use Rattle.attempt.specs.Attempt.{AttemptBy, Attempts, Passed, Rejected, key_in, subject_of}
use Rattle.attempt.proofs.Finishing.{commit-stops, check-stops, open-stops, passed-stops, rejected-goes}

-- a record is that of the challenge of its commitment and of the answer to it
closed_is : (s : Params) (m : ℕ) (a area digest : List ℕ) (counter : ℕ) (y c : List ℕ) (z : List ℤ) → c ≡ challenge s (commitment_to s a y) digest counter → z ≡ answer_to s (recombined s m area) c y → content_of counter digest z c ≡ closed s (key_in s m a area) digest counter y
unfolding closed
closed_is s m a area digest counter y c z ec ez =
    ap₂ (λ (z : List ℤ) (c : List ℕ). content_of counter digest z c) (ez ∙ ap (λ (c : List ℕ). answer_to s (recombined s m area) c y) ec) ec

module _ (s : Params) (m : ℕ) (pos : 0 < m) (a area digest : List ℕ) (counter number : ℕ) (y : List ℕ) (n n' f f₁ : Flow) (d : Drawing s m (subject_of s m a area digest counter) y n n' f f₁) (long : length y ≡ 2 * s.n) where
  abbrev u : Subject
  u = subject_of s m a area digest counter

  halted-in : (k spent : ℕ) (step : Step) (t : Ended Fault) (f₀ f₃ : Flow) → k ≡ number → (h : ShortOf s m k step spent t f₀ f₃) → Stops s m u [] [] (λ a. masks_ended (record { mark = h.mark; attempt = a; step = step })) n n' f f₃ → Halted s m u number t n n' f f₃
  halted-in k spent step t f₀ f₃ e h stops = record {
    outcome = λ a. masks_ended (record { mark = h.mark; attempt = a; step = step });
    is = ap outcome_of h.is ∙ ap (λ (k : ℕ). masks_ended (record { mark = h.mark; attempt = k; step = step })) e;
    told = ap attempt_of h.is ∙ e;
    stops = stops;
  }

  pub commit-halted : (k : ℕ) (t : Ended Fault) (f₂ : Flow) → k ≡ number → ShortOf s m k Commit 0 t f₁ f₂ → Halted s m (subject_of s m a area digest counter) number t n n' f f₂
  commit-halted k t f₂ e h = halted-in k 0 Commit t f₁ f₂ e h (commit-stops s m pos u y n n' f f₁ d long h.mark f₂ h.short)

  -- the commitment is open, and gives the challenge c
  module _ (f₂ : Flow) (sc : Spent (cost s m Commit) f₁ f₂) (c : List ℕ) (ec : c ≡ challenge s (commitment_to s a y) digest counter) where
    abbrev z : List ℤ
    z = answer_to s (recombined s m area) c y

    record_is : content_of counter digest (answer_to s (recombined s m area) c y) c ≡ closed s (key_in s m a area) digest counter y
    record_is = closed_is s m a area digest counter y c z ec refl

    near-as : all_near s (closed s (key_in s m a area) digest counter y).z ≡ all_near s (answer_to s (recombined s m area) c y)
    near-as = ap (λ (r : Content). all_near s r.z) (sym record_is)

    pub close-halted : (k : ℕ) (t : Ended Fault) (f₃ : Flow) → k ≡ number → (ShortOf s m k Check 0 t f₂ f₃ ⊎ ((all_near s (answer_to s (recombined s m area) c y) ≡ true) × ShortOf s m k Open (cost s m Check) t f₂ f₃)) → Halted s m (subject_of s m a area digest counter) number t n n' f f₃
    close-halted k t f₃ e (inl h) = halted-in k 0 Check t f₂ f₃ e h (check-stops s m pos u y n n' f f₁ d long f₂ sc h.mark f₃ h.short)
    close-halted k t f₃ e (inr q) =
        let h = q.1 in
        halted-in k (cost s m Check) Open t f₂ f₃ e h (open-stops s m pos u y n n' f f₁ d long f₂ sc h.mark f₃ (near-as ∙ q.0) h.paid h.short)

    pub close_passed : (opened : List ℤ) (bytes : List ℕ) (f₃ : Flow) → all_near s (answer_to s (recombined s m area) c y) ≡ true → Spent (cost s m Check + cost s m Open) f₂ f₃ → opened ≡ answer_to s (recombined s m area) c y → bytes ≡ encode s (content_of counter digest opened c) → Passed s m (subject_of s m a area digest counter) bytes n n' f f₃
    close_passed opened bytes f₃ ok t is written = record {
      content = closed s (key_in s m a area) digest counter y;
      written = written ∙ ap (encode s) (closed_is s m a area digest counter y c opened ec is);
      stops = passed-stops s m pos u y n n' f f₁ d long f₂ sc f₃ (near-as ∙ ok) t;
    }

    pub close-rejected : (f₃ : Flow) → all_near s (answer_to s (recombined s m area) c y) ≡ false → Spent (cost s m Check) f₂ f₃ → Rejected s m (subject_of s m a area digest counter) n n' f f₃
    close-rejected f₃ far t = rejected-goes s m pos u y n n' f f₁ d long f₂ sc f₃ (near-as ∙ far) t

-- what becomes of the record area: an attempt that passes writes the record into it
abbrev Leaves : Result Bool (Ended Fault) → (record_bytes bytes bytes' : List ℕ) → Type 0
Leaves (Ok true) record_bytes bytes bytes' = bytes' ≡ record_bytes
Leaves (Ok false) record_bytes bytes bytes' = bytes' ≡ bytes
Leaves (Err t) record_bytes bytes bytes' = bytes' ≡ bytes

-- an attempt, from its first stage on
module _ (s : Params) (m : ℕ) (pos : 0 < m) (a area digest : List ℕ) (counter number : ℕ) (k : Drawn) (area_y : List ℕ) (n n' f f₁ : Flow) (drawn : (u : Subject) → Begins s m u number (Ok k) (recombined s m area_y) n n' f f₁) where
  pub attempt-uncommitted : {t : Ended Fault} (commitment r : List ℕ) {f₂ : Flow} {bytes : List ℕ} → Commits s m k.number (Err t) commitment r f₁ f₂ → Attempts s m (subject_of s m a area digest counter) number (Err t) bytes bytes n n' f f₂
  attempt-uncommitted {t = t} commitment r {f₂ = f₂} h =
      let d = (drawn (subject_of s m a area digest counter)).by in
      record { by = (refl, commit-halted s m pos a area digest counter number (recombined s m area_y) n n' f f₁ d.1 (recombined-long s m area_y) k.number t f₂ d.0 h.by) }

  pub attempt-closed : {o : Committed} {r : List ℕ} {f₂ : Flow} → Commits s m k.number (Ok o) (commitment_to s a (recombined s m area_y)) r f₁ f₂ → (c : List ℕ) → c ≡ challenge s r digest counter
      → (passed : Result Bool (Ended Fault)) {opened : List ℤ} {f₃ : Flow} → Closes s m o.number passed (answer_to s (recombined s m area) c (recombined s m area_y)) opened f₂ f₃
      → {bytes bytes' : List ℕ} → Leaves passed (encode s (content_of counter digest opened c)) bytes bytes'
      → Attempts s m (subject_of s m a area digest counter) number passed bytes bytes' n n' f f₃
  attempt-closed {o = o} {f₂ = f₂} committed c is passed {opened = opened} {f₃ = f₃} closes {bytes = bytes} {bytes' = bytes'} leaves = record { by = ended passed closes.by leaves }
    where
      long : length (recombined s m area_y) ≡ 2 * s.n
      long = recombined-long s m area_y

      d : (k.number ≡ number) × Drawing s m (subject_of s m a area digest counter) (recombined s m area_y) n n' f f₁
      d = (drawn (subject_of s m a area digest counter)).by

      ec : c ≡ challenge s (commitment_to s a (recombined s m area_y)) digest counter
      ec = is ∙ ap (λ (r : List ℕ). challenge s r digest counter) committed.by.2

      ended : (p : Result Bool (Ended Fault)) → ClosesBy s m o.number p (answer_to s (recombined s m area) c (recombined s m area_y)) opened f₂ f₃ → Leaves p (encode s (content_of counter digest opened c)) bytes bytes' → AttemptBy s m (subject_of s m a area digest counter) number p bytes bytes' n n' f f₃
      ended (Ok true) h e = close_passed s m pos a area digest counter number (recombined s m area_y) n n' f f₁ d.1 long f₂ committed.by.1 c ec opened bytes' f₃ h.0 h.1 h.2 e
      ended (Ok false) h e = (e, close-rejected s m pos a area digest counter number (recombined s m area_y) n n' f f₁ d.1 long f₂ committed.by.1 c ec f₃ h.0 h.1)
      ended (Err t) h e = (e, close-halted s m pos a area digest counter number (recombined s m area_y) n n' f f₁ d.1 long f₂ committed.by.1 c ec o.number t f₃ (committed.by.0 ∙ d.0) h)
