-- The bit that the check opens.
use Rattle.std.specs.Prelude.{ℕ, Bool, cond}

-- 1 where the check passes, else 0
abbrev pub pass_bit : Bool → ℕ
pass_bit b = cond b 1 0
