-- What a word source has still to give, and what one draw does to it.
use Rattle.std.specs.Prelude.{◌≡◌, ℕ, ◌+◌, ◌%◌, ◌^◌, List, [], ◌∷◌, length, Ok, Err, Result}
use Rattle.words.specs.declared.Mark.{Mark}

-- the words still to come, the mark at their end, and what no draw changes: a pair for each meter that the words pass
pub record Flow : Type 0 where
  pub words : List ℕ
  pub mark : Mark
  pub origin : List (ℕ × ℕ)

-- a source that passes no meter
abbrev pub from : List ℕ → Mark → Flow
from ws m = record { words = ws; mark = m; origin = [] }

-- one word off the list; or the list was empty, and the answer is its mark
abbrev pub Drawn : Result ℕ Mark → Flow → Flow → Type 0
Drawn (Ok w) f f' = (f.words ≡ w ∷ f'.words) × (f'.mark ≡ f.mark) × (f'.origin ≡ f.origin)
Drawn (Err e) f f' = (f.words ≡ []) × (f'.words ≡ []) × (e ≡ f.mark) × (f'.mark ≡ f.mark) × (f'.origin ≡ f.origin)

-- a flow behind a meter at count c: the words and the mark are those of the lent source, and the origin holds the lent
-- source's name and how many words it had when the count was 0
abbrev pub metered : ℕ → ℕ → Flow → Flow
metered lent c f = record { words = f.words; mark = f.mark; origin = (lent, (c + length f.words) % 2 ^ 64) ∷ f.origin }
