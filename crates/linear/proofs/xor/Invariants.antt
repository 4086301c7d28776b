use lib.Bits.{bit_xor}
use Rattle.std.proofs.Common.{◌≡◌, get_or}
use Rattle.linear.proofs.Sharewise.{Made}
use Rattle.linear.proofs.xor.Given as goal

abbrev pub invariant-loop-i : goal.invariant-loop-i
invariant-loop-i g l = Made (λ k o. o ≡ bit_xor (get_or l.initial.share-items k 0) (get_or l.y k 0)) l.initial.share-items l.share-items l.i
