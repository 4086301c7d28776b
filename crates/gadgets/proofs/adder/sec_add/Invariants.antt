use Rattle.std.proofs.Common.{ℕ, ◌*◌, ◌^◌}
use Rattle.words.specs.Spending.{Spent}
use Rattle.shares.specs.Groups.{word_of}
use Rattle.shares.specs.Refresh.{pairs}
use Rattle.gadgets.proofs.Carries.{Carried}
use Rattle.gadgets.proofs.adder.sec_add.Given as goal

abbrev pub invariant-loop-level : goal.invariant-loop-level
invariant-loop-level g l =
    let s = g.S.Source.flow in
    ((k : ℕ) → Carried 1 k (word_of l.initial.g) (word_of l.initial.p) → Carried (2 ^ l.level) k (word_of l.g) (word_of l.p))
    × Spent (l.level * (3 * pairs g.row.M)) (s l.initial.src) (s l.src)
