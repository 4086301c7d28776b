use Rattle.std.proofs.Common.{◌≡◌}
use Rattle.std.specs.Io.Iter.{split_byte, split_known_bytes}
use Rattle.std.specs.Iterator.Adapters.{enumerate_source, enumerate_count}
use Rattle.runner.proofs.SoFar.{Reads}
use Rattle.runner.proofs.carry_all.Given as goal

abbrev pub invariant-lines : goal.invariant-lines
invariant-lines g l = record {
  can : (goal.iterator-lines g).can_next l.index-iterator;
  ends : (goal.iterator-lines g).is_finite l.index-iterator;
  newline : split_byte (enumerate_source l.index-iterator) ≡ 10;
  reads : Reads (g.R.Read.remaining l.fn.input) (split_known_bytes g.R.Read.remaining (enumerate_source l.index-iterator)) (enumerate_count l.index-iterator) l.world (g.W.Write.contents l.initial.out) (g.W.Write.contents l.out);
}
