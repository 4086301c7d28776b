-- How many words a call takes from a source, and what becomes of it where there are too few.
use Rattle.std.specs.Prelude.{◌≡◌, ℕ, ◌<◌, ◌≤◌, [], length, drop, Ok, Err, Result}
use Rattle.words.specs.declared.Mark.{Mark}
use Rattle.words.specs.Flow.{Flow}

-- the first n words are taken
pub record Spent (n : ℕ) (f f' : Flow) : Type 0 where
  pub enough : n ≤ length f.words
  pub rest : f'.words ≡ drop n f.words
  pub mark : f'.mark ≡ f.mark
  pub origin : f'.origin ≡ f.origin

-- there were fewer than n words: all are taken, and the error is the mark
pub record Short (n : ℕ) (e : Mark) (f f' : Flow) : Type 0 where
  pub few : length f.words < n
  pub rest : f'.words ≡ []
  pub why : e ≡ f.mark
  pub mark : f'.mark ≡ f.mark
  pub origin : f'.origin ≡ f.origin

-- the two ways in which a call that needs n words can end
abbrev pub SpendsBy : {A : Type 0} → ℕ → Result A Mark → Flow → Flow → (A → Type 0) → Type 0
SpendsBy n (Ok x) f f' P = Spent n f f' × P x
SpendsBy n (Err e) f f' P = Short n e f f'

-- a call takes n words and P holds of its answer, or it comes short of n
pub record Spends {A : Type 0} (n : ℕ) (r : Result A Mark) (f f' : Flow) (P : A → Type 0) : Type 0 where
  pub by : SpendsBy n r f f' P
