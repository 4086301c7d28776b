-- What the stages of an attempt come to.
use Rattle.std.specs.Prelude.{◌≡◌, ℕ, ◌+◌, ◌≤◌, Bool, true, false, ◌⊎◌, List, [], ◌++◌, map, length, take, drop, ℤ, Ok, Err, Result}
use Rattle.params.specs.Params.{Params}
use Rattle.words.specs.declared.Mark.{Mark}
use Rattle.words.specs.Flow.{Flow}
use Rattle.words.specs.Spending.{Spent, Short}
use Rattle.refusal.specs.declared.fault.Fault.{Fault}
use Rattle.refusal.specs.declared.fault.Step.{Step}
use Rattle.refusal.specs.declared.fault.Step.TheVariants.{Commit, Check, Open}
use Rattle.record.specs.Reading.{all_near}
use Rattle.steps.specs.declared.Ended.{Ended}
use Rattle.steps.specs.declared.Ended.TheVariants.{Nonces, Masks}
use Rattle.ring.specs.Ring.{centre, plus, product}
use Rattle.plain.specs.Costs.{cost}
use Rattle.plain.specs.Run.{Outcome, nonces_ended, masks_ended}
use Rattle.drawing.specs.Resume.{Subject, Stops}
use Rattle.drawing.specs.Drawing.{Drawing}
use Rattle.attempt.specs.declared.stage.Drawn.{Drawn}
use Rattle.attempt.specs.declared.stage.Committed.{Committed}

-- how a signing ends that is stopped so
abbrev pub outcome_of : Ended Fault → Outcome
outcome_of (Nonces fault) = nonces_ended fault
outcome_of (Masks fault) = masks_ended fault

-- the attempt that a source ended in
abbrev pub attempt_of : Ended Fault → ℕ
attempt_of (Nonces fault) = fault.attempt
attempt_of (Masks fault) = fault.attempt

-- an attempt with this number that a source stops
pub record Halted (s : Params) (m : ℕ) (u : Subject) (number : ℕ) (t : Ended Fault) (n n' f f' : Flow) : Type 0 where
  pub outcome : ℕ → Outcome
  pub is : outcome_of t ≡ outcome number
  pub told : attempt_of t ≡ number
  pub stops : Stops s m u [] [] outcome n n' f f'

-- the first stage: nonces y
abbrev pub BeginsBy : Params → ℕ → Subject → ℕ → Result Drawn (Ended Fault) → List ℕ → Flow → Flow → Flow → Flow → Type 0
BeginsBy s m u number (Ok d) y n n' f f' = (d.number ≡ number) × Drawing s m u y n n' f f'
BeginsBy s m u number (Err t) y n n' f f' = Halted s m u number t n n' f f'

pub record Begins (s : Params) (m : ℕ) (u : Subject) (number : ℕ) (r : Result Drawn (Ended Fault)) (y : List ℕ) (n n' f f' : Flow) : Type 0 where
  pub by : BeginsBy s m u number r y n n' f f'

-- the masks end in a step
pub record ShortOf (s : Params) (m number : ℕ) (step : Step) (spent : ℕ) (t : Ended Fault) (f f' : Flow) : Type 0 where
  pub mark : Mark
  pub is : t ≡ Masks (record { mark = mark; attempt = number; step = step })
  pub paid : spent ≤ length f.words
  pub short : Short (spent + cost s m step) mark f f'

-- the commitment to the nonces y: a·y1 + y2
abbrev pub commitment_to : Params → List ℕ → List ℕ → List ℕ
commitment_to s a y = plus s.p (product s.p a (take s.n y)) (drop s.n y)

-- the second stage: the commitment r is open
abbrev pub CommitsBy : Params → ℕ → ℕ → Result Committed (Ended Fault) → (commitment r : List ℕ) → Flow → Flow → Type 0
CommitsBy s m number (Ok k) commitment r f f' = (k.number ≡ number) × Spent (cost s m Commit) f f' × (r ≡ commitment)
CommitsBy s m number (Err t) commitment r f f' = ShortOf s m number Commit 0 t f f'

pub record Commits (s : Params) (m number : ℕ) (k : Result Committed (Ended Fault)) (commitment r : List ℕ) (f f' : Flow) : Type 0 where
  pub by : CommitsBy s m number k commitment r f f'

-- the answer to a challenge c, of the secret polynomials and the nonces: s1·c + y1 and s2·c + y2
abbrev pub answer_to : Params → (secret c y : List ℕ) → List ℤ
answer_to s secret c y = map (centre s.p) (plus s.p (product s.p (take s.n secret) c) (take s.n y) ++ plus s.p (product s.p (drop s.n secret) c) (drop s.n y))

-- the end: the answer z to the challenge is near enough to 0 and is opened, or it is not and stays shut
abbrev pub ClosesBy : Params → ℕ → ℕ → Result Bool (Ended Fault) → (z opened : List ℤ) → Flow → Flow → Type 0
ClosesBy s m number (Ok true) z opened f f' = (all_near s z ≡ true) × Spent (cost s m Check + cost s m Open) f f' × (opened ≡ z)
ClosesBy s m number (Ok false) z opened f f' = (all_near s z ≡ false) × Spent (cost s m Check) f f'
ClosesBy s m number (Err t) z opened f f' = ShortOf s m number Check 0 t f f' ⊎ ((all_near s z ≡ true) × ShortOf s m number Open (cost s m Check) t f f')

pub record Closes (s : Params) (m number : ℕ) (r : Result Bool (Ended Fault)) (z opened : List ℤ) (f f' : Flow) : Type 0 where
  pub by : ClosesBy s m number r z opened f f'
