-- The marks at the end of a source, as they are told.
use Rattle.std.specs.Prelude.{ℕ}
use Rattle.words.specs.declared.Mark.{Mark}
use Rattle.words.specs.declared.Mark.TheVariants.{Spent, Unhealthy}

-- 1 where the words are used up, 2 where a health check withholds the rest
abbrev pub mark_number : Mark → ℕ
mark_number Spent = 1
mark_number Unhealthy = 2
