use Rattle.std.proofs.Common.{take}
use Rattle.std.specs.Fmt.{IsPlainFormatter, HasWritten}
use Rattle.answers.specs.Spelling.{spell, word_text}
use Rattle.answers.proofs.text.write_words.Given as goal

abbrev pub invariant-words : goal.invariant-words
invariant-words g l = IsPlainFormatter l.initial.f → HasWritten g.W.Write.write_str_gives l.initial.f (spell word_text (take l.word-index l.words)) l.f
