-- Drawing the nonces of an attempt.
use Rattle.std.specs.Prelude.{ℕ, ◌*◌, List, [], Ok, Err, Result}
use Rattle.params.specs.Params.{Params}
use Rattle.words.specs.Flow.{Flow}
use Rattle.words.specs.declared.Mark.{Mark}
use Rattle.words.specs.Spending.{Spent}
use Rattle.refusal.specs.declared.fault.Step.{Step}
use Rattle.steps.specs.declared.Ended.{Ended}
use Rattle.steps.specs.declared.Ended.TheVariants.{Nonces, Masks}
use Rattle.plain.specs.Run.{Outcome, nonces_ended, masks_ended}
use Rattle.drawing.specs.declared.halt.Halt.{Halt}
use Rattle.drawing.specs.Resume.{Subject, Leads, Stops}

-- nonces y were drawn from the start of an attempt on
pub record Drawing (s : Params) (m : ℕ) (u : Subject) (y : List ℕ) (n n' f f' : Flow) : Type 0 where
  pub words : List ℕ
  pub seen : ℕ
  pub spent : ℕ
  pub nonces : Spent (m * seen) n n'
  pub masks : Spent spent f f'
  pub leads : Leads s m u [] [] n f seen spent words y n' f'

-- how a signing ends in which a source ends in attempt a
abbrev pub ended_by : Ended Mark → Step → ℕ → Outcome
ended_by (Nonces e) step a = nonces_ended (record { mark = e; attempt = a; step = step })
ended_by (Masks e) step a = masks_ended (record { mark = e; attempt = a; step = step })

abbrev pub halted : Halt → ℕ → Outcome
halted h a = ended_by h.ended h.step a

-- the nonces are drawn, or a source ended
abbrev pub DrawsBy : {A : Type 0} → Params → ℕ → Subject → Result A Halt → List ℕ → Flow → Flow → Flow → Flow → Type 0
DrawsBy s m u (Ok _) y n n' f f' = Drawing s m u y n n' f f'
DrawsBy s m u (Err h) y n n' f f' = Stops s m u [] [] (halted h) n n' f f'

pub record Draws {A : Type 0} (s : Params) (m : ℕ) (u : Subject) (r : Result A Halt) (y : List ℕ) (n n' f f' : Flow) : Type 0 where
  pub by : DrawsBy s m u r y n n' f f'
