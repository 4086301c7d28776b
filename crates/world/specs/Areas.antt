-- Areas that a call is lent.
use Rattle.std.specs.Prelude.{ℕ, ◌+◌, min}

-- the size of an area that is lent where so much was asked for: at most one more than it should be
abbrev pub lent : (asked right : ℕ) → ℕ
lent asked right = min asked (right + 1)
