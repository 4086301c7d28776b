use Rattle.std.proofs.Common.{◌≡◌, ℕ, ◌+◌, ◌*◌, ◌<◌, get_or, vec_items, vec_len}
use Rattle.script.specs.Words.{Pair}
use Rattle.script.proofs.hex.hex_bytes.Given as goal

abbrev pub invariant-pairs : goal.invariant-pairs
invariant-pairs l = (vec_len l.bytes ≡ l.digits-index) × ((k : ℕ) → k < l.digits-index → Pair (get_or l.word (2 * k) 0) (get_or l.word (2 * k + 1) 0) (get_or (vec_items l.bytes) k 0))
