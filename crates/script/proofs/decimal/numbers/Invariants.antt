use Rattle.std.proofs.Common.{◌≡◌, vec_items}
use Rattle.std.specs.Str.Iter.{split_has_more, split_pattern, split_text}
use Rattle.script.proofs.Rows.{Along}
use Rattle.script.proofs.decimal.numbers.Given as goal

abbrev pub invariant-words : goal.invariant-words
invariant-words g l = record {
  can : (goal.iterator-words g).can_next l.word-iterator;
  ends : (goal.iterator-words g).is_finite l.word-iterator;
  spaces : split_pattern l.word-iterator ≡ 32;
  along : Along g.T.Entry.writes l.text (split_has_more l.word-iterator) (split_text l.word-iterator) (vec_items l.values);
}
