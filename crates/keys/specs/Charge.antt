-- What a call takes from its mask source, and what it answers where the source has too few words.
use Rattle.std.specs.Prelude.{ℕ, cond, length, drop, Ok, Err, Result, nat_le}
use Rattle.words.specs.Flow.{Flow}
use Rattle.refusal.specs.declared.Refusal.{Refusal}
use Rattle.refusal.specs.declared.Refusal.TheVariants.{MasksEnded}

-- a source after a call that needs so many words: they are taken, or all that were left
abbrev pub taken : ℕ → Flow → Flow
taken cost f = record { words = drop cost f.words; mark = f.mark; origin = f.origin }

-- x, where the source has so many words, and else the mark at its end
abbrev pub charged : {A : Type 0} → ℕ → Flow → A → Result A Refusal
charged cost f x = cond (nat_le cost (length f.words)) (Ok x) (Err (MasksEnded f.mark))
