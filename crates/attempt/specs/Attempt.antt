-- One attempt, as a part of the run.
use Rattle.std.specs.Prelude.{◌≡◌, ℕ, ◌+◌, ◌-◌, ◌*◌, Bool, true, false, List, [], take, drop, Ok, Err, Result, nat_le}
use Rattle.params.specs.Params.{Params}
use Rattle.words.specs.Flow.{Flow}
use Rattle.words.specs.Spending.{Spent}
use Rattle.record.specs.Layout.{Content, encode}
use Rattle.polys.specs.Area.{recombined}
use Rattle.plain.specs.Nonces.{whole}
use Rattle.plain.specs.Run.{Key, signed, all_failed, rejected, choose, run, stop, after_rejected}
use Rattle.drawing.specs.Resume.{Subject, Supply, setting_of, resume, Fits, Stops}
use Rattle.refusal.specs.declared.fault.Fault.{Fault}
use Rattle.steps.specs.declared.Ended.{Ended}
use Rattle.attempt.specs.declared.subject.Subject.{Subject as InShares}
use Rattle.attempt.specs.Stages.{Halted}

-- the key that a key area of m shares holds beside the public polynomial a
abbrev pub key_in : Params → ℕ → (a area : List ℕ) → Key
key_in s m a area = record { a = a; s1 = take s.n (recombined s m area); s2 = drop s.n (recombined s m area) }

-- what is signed with it
abbrev pub subject_of : Params → ℕ → (a area digest : List ℕ) (counter : ℕ) → Subject
subject_of s m a area digest counter = record { key = key_in s m a area; digest = digest; counter = counter }

-- what a subject in m shares says to sign
abbrev pub signs : {S : _} {g : _} → Params → ℕ → InShares S g → Subject
signs s m u = subject_of s m u.a.words.now u.key.now u.digest.now u.counter

-- the attempt passes: the run stops with its record, which stands in the record area
pub record Passed (s : Params) (m : ℕ) (u : Subject) (bytes : List ℕ) (n n' f f' : Flow) : Type 0 where
  pub content : Content
  pub written : bytes ≡ encode s content
  pub stops : Stops s m u [] [] (λ a. signed content) n n' f f'

-- the attempt is rejected: the run stops, or goes on with the next attempt
pub record Rejected (s : Params) (m : ℕ) (u : Subject) (n n' f f' : Flow) : Type 0 where
  pub words : List ℕ
  pub content : Content
  pub seen : ℕ
  pub spent : ℕ
  pub nonces : Spent (m * seen) n n'
  pub masks : Spent spent f f'
  pub fits : (x : Supply) (spent₀ : ℕ) → Fits x m spent₀ n f → Fits x m (spent₀ + spent) n' f'
  pub goes : (x : Supply) (more a seen₀ spent₀ : ℕ) → Fits x m spent₀ n f →
      resume (setting_of s m u x) more a [] [] seen₀ spent₀ n.words
      ≡ choose (nat_le more 0) (stop (setting_of s m u x) all_failed words (rejected content) (seen₀ + seen) 0 (spent₀ + spent) n'.words)
      (after_rejected words content (run (setting_of s m u x) (more - 1) (a + 1) [] [] (seen₀ + seen) (spent₀ + spent) (whole m n'.words)))

-- an attempt with this number: it passes, is rejected, or is stopped; only one that passes changes the record area
abbrev pub AttemptBy : Params → ℕ → Subject → ℕ → Result Bool (Ended Fault) → (bytes bytes' : List ℕ) → Flow → Flow → Flow → Flow → Type 0
AttemptBy s m u number (Ok true) bytes bytes' n n' f f' = Passed s m u bytes' n n' f f'
AttemptBy s m u number (Ok false) bytes bytes' n n' f f' = (bytes' ≡ bytes) × Rejected s m u n n' f f'
AttemptBy s m u number (Err t) bytes bytes' n n' f f' = (bytes' ≡ bytes) × Halted s m u number t n n' f f'

pub record Attempts (s : Params) (m : ℕ) (u : Subject) (number : ℕ) (r : Result Bool (Ended Fault)) (bytes bytes' : List ℕ) (n n' f f' : Flow) : Type 0 where
  pub by : AttemptBy s m u number r bytes bytes' n n' f f'
