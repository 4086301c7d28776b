-- A signing that follows the plain run, as the answer of a sign.
use Rattle.std.proofs.Common.{◌≡◌, ℕ, ◌+◌, ◌<◌, List, [], ◌∷◌, length, take, replicate, Ok, Err, sym, refl, ap, ◌∙◌, subst, ap₂}
use Rattle.std.specs.List.{AllByRecursion}
use Rattle.params.specs.Params.{Params, Sound}
use Rattle.refusal.specs.declared.Refusal.{Refusal}
use Rattle.refusal.specs.declared.fault.Counts.{Counts}
use Rattle.record.specs.Layout.{Content}
use Rattle.words.specs.Flow.{Flow}
use Rattle.plain.specs.Laws.{ComesFrom, Fates, own_nonces}
use Rattle.plain.specs.Run.{Attempt, Fate, Key, Outcome, Run, closed, counts_of, sign, signed}
use Rattle.plain.proofs.Accounting.{signing_accounts}
use Rattle.attempt.specs.Attempt.{key_in, subject_of}
use Rattle.attempt.specs.Stages.{outcome_of}
use Rattle.refusal.specs.declared.fault.Fault.{Fault}
use Rattle.steps.specs.declared.Ended.{Ended}
use Rattle.steps.specs.declared.Ended.TheVariants.{Nonces, Masks}
use Rattle.signing.specs.declared.failure.Failure.{Failure}
use Rattle.signing.specs.declared.failure.Failure.TheVariants.{Halted, TriesFailed as FailedTries}
use Rattle.signing.specs.Signing.{Follows, plain_run}
use Rattle.card.specs.Sign.{Ran, answer_of, counter_after, outcome_in, record_after}
use Rattle.keys.proofs.Charges.{spent-taken}

-- a record has the counter that its attempt was made for
numbered : (s : Params) (key : Key) (m : ℕ) (digest : List ℕ) (counter : ℕ) (r : Content) (ts : List Attempt) → Fates (signed r) ts → AllByRecursion (λ (t : Attempt). ComesFrom s key digest counter (own_nonces s m t) t.fate) ts → r.counter ≡ counter
unfolding closed
numbered s key m digest counter r [] f a = absurd f
numbered s key m digest counter r (t ∷ []) f a = ap (λ (r : Content). r.counter) (subst (λ (fate : Fate). ComesFrom s key digest counter (own_nonces s m t) fate) f a.0).1
numbered s key m digest counter r (t ∷ t₂ ∷ more) f a = numbered s key m digest counter r (t₂ ∷ more) f.1 a.1

-- the end of a signing that gave no record
failed_as : (s : Params) (tries : ℕ) (x : Failure) (bytes bytes' : List ℕ) (n n' f f' : Flow) (m : ℕ) (r : Run) → Follows s m tries (Err x) bytes bytes' n n' f f' r → (r.outcome ≡ outcome_in x) × (bytes' ≡ bytes)
failed_as s tries (Halted t) bytes bytes' n n' f f' m r h = (h.ends.0, h.ends.1)
failed_as s tries FailedTries bytes bytes' n n' f f' m r h = (h.ends.0, h.ends.1)

-- it leaves the counter and the record area
unsigned : (s : Params) (x : Failure) (counter : ℕ) (bytes : List ℕ) → (counter_after (outcome_in x) counter ≡ counter) × (record_after s (outcome_in x) bytes ≡ bytes)
unsigned s (Halted t) counter bytes = unsigned-stop t
  where
    unsigned-stop : (t : Ended Fault) → (counter_after (outcome_of t) counter ≡ counter) × (record_after s (outcome_of t) bytes ≡ bytes)
    unsigned-stop (Nonces fault) = (refl, refl)
    unsigned-stop (Masks fault) = (refl, refl)
unsigned s FailedTries counter bytes = (refl, refl)

module _ (s : Params) (sound : Sound s) (m : ℕ) (pos : 0 < m) (digest : List ℕ) (counter tries : ℕ) (some : 0 < tries) (key public work work' bytes bytes' : List ℕ) (n n' f f' : Flow) (zeroed : work' ≡ replicate (length work) 0) where
  abbrev K : Key
  K = key_in s m (take s.n public) key

  abbrev R : Run
  R = sign s K m digest counter tries n f

  pub ran-signed : (attempts : ℕ) (counts : Counts) → Follows s m tries (Ok attempts) bytes bytes' n n' f f' (plain_run s m (subject_of s m (take s.n public) key digest (counter + 1)) tries n f) → counts ≡ counts_of (plain_run s m (subject_of s m (take s.n public) key digest (counter + 1)) tries n f)
      → Ran s (sign s (key_in s m (take s.n public) key) m digest counter tries n f) (Ok (record { counter = counter + 1; counts = counts })) counter (counter + 1) work work' bytes bytes' n n' f f'
  unfolding sign
  ran-signed attempts counts h ec =
      let w = h.ends in
      let o : R.outcome ≡ signed w.content = w.outcome in
      let a = signing_accounts s sound K m pos digest counter tries some n f in
      let c : w.content.counter ≡ counter + 1 = numbered s K m digest (counter + 1) w.content R.attempts (subst (λ (o : Outcome). Fates o R.attempts) o a.fates) a.own in
      record {
        answered = ap₂ (λ (k : ℕ) (t : Counts). Ok (record { counter = k; counts = t })) (sym c) ec ∙ ap (λ (o : Outcome). answer_of o (counts_of R)) (sym o);
        counted = ap (λ (o : Outcome). counter_after o counter) (sym o);
        written = w.written ∙ ap (λ (o : Outcome). record_after s o bytes) (sym o);
        zeroed = zeroed;
        nonces = spent-taken h.nonces;
        masks = spent-taken h.masks;
      }

  pub ran-failed : (x : Failure) (e : Refusal) (counts : Counts) → Err e ≡ answer_of (outcome_in x) counts → Follows s m tries (Err x) bytes bytes' n n' f f' (plain_run s m (subject_of s m (take s.n public) key digest (counter + 1)) tries n f) → counts ≡ counts_of (plain_run s m (subject_of s m (take s.n public) key digest (counter + 1)) tries n f)
      → Ran s (sign s (key_in s m (take s.n public) key) m digest counter tries n f) (Err e) counter counter work work' bytes bytes' n n' f f'
  unfolding sign
  ran-failed x e counts ee h ec =
      let w = failed_as s tries x bytes bytes' n n' f f' m _ h in
      let o : R.outcome ≡ outcome_in x = w.0 in
      let same = unsigned s x counter bytes in
      record {
        answered = ee ∙ ap₂ answer_of (sym o) ec;
        counted = sym (ap (λ (o : Outcome). counter_after o counter) o ∙ same.0);
        written = w.1 ∙ sym (ap (λ (o : Outcome). record_after s o bytes) o ∙ same.1);
        zeroed = zeroed;
        nonces = spent-taken h.nonces;
        masks = spent-taken h.masks;
      }
