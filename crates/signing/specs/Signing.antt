-- What a signing comes to: the plain run on what the shares stand for.
use Rattle.std.specs.Prelude.{◌≡◌, ℕ, ◌-◌, ◌/◌, List, [], length, Ok, Err, Result}
use Rattle.params.specs.Params.{Params}
use Rattle.words.specs.Flow.{Flow}
use Rattle.words.specs.Spending.{Spent}
use Rattle.record.specs.Layout.{Content, encode}
use Rattle.plain.specs.Nonces.{whole, cut_short}
use Rattle.plain.specs.Run.{Run, all_failed, signed, run}
use Rattle.drawing.specs.Resume.{Subject, Supply, setting_of}
use Rattle.attempt.specs.Stages.{outcome_of, attempt_of}
use Rattle.signing.specs.declared.failure.Failure.{Failure}
use Rattle.signing.specs.declared.failure.Failure.TheVariants.{Halted, TriesFailed}

-- what two sources supply to a signing of m shares
abbrev pub supply_of : ℕ → Flow → Flow → Supply
supply_of m n f = record { cut = cut_short m n.words; nonce_mark = n.mark; mask_mark = f.mark; mask_count = length f.words }

-- the plain run
abbrev pub plain_run : Params → ℕ → Subject → ℕ → Flow → Flow → Run
plain_run s m u tries n f = run (setting_of s m u (supply_of m n f)) (tries - 1) 1 [] [] 0 0 (whole m n.words)

-- the run's record stands in the record area
pub record Written (s : Params) (attempts : ℕ) (bytes' : List ℕ) (r : Run) : Type 0 where
  pub content : Content
  pub outcome : r.outcome ≡ signed content
  pub written : bytes' ≡ encode s content
  pub begun : length r.attempts ≡ attempts

-- a signing ends as the run does
abbrev pub EndsAs : Params → (tries : ℕ) → Result ℕ Failure → (bytes bytes' : List ℕ) → Run → Type 0
EndsAs s tries (Ok attempts) bytes bytes' r = Written s attempts bytes' r
EndsAs s tries (Err (Halted t)) bytes bytes' r = (r.outcome ≡ outcome_of t) × (bytes' ≡ bytes) × (length r.attempts ≡ attempt_of t)
EndsAs s tries (Err TriesFailed) bytes bytes' r = (r.outcome ≡ all_failed) × (bytes' ≡ bytes) × (length r.attempts ≡ tries)

-- .. with the words drawn that the run draws
pub record Follows (s : Params) (m tries : ℕ) (o : Result ℕ Failure) (bytes bytes' : List ℕ) (n n' f f' : Flow) (r : Run) : Type 0 where
  pub ends : EndsAs s tries o bytes bytes' r
  pub nonces : Spent r.drawn n n'
  pub masks : Spent r.spent f f'
  pub left : r.left ≡ n'.words
  pub seen : r.seen ≡ r.drawn / m

-- the attempts begun in a signing that ends so
abbrev pub attempts_begun : (tries : ℕ) → Result ℕ Failure → ℕ
attempts_begun tries (Ok attempts) = attempts
attempts_begun tries (Err (Halted t)) = attempt_of t
attempts_begun tries (Err TriesFailed) = tries
