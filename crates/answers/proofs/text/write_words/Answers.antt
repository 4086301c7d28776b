use Rattle.std.proofs.Common.{refl}
use Rattle.answers.proofs.Spellings.{put-none, put_next, put_all}
use Rattle.answers.proofs.text.write_words.Goals as goal
use Rattle.answers.specs.Spelling.{word_text}

pub words-init : goal.words-init
words-init g c = put-none g.W.Write.write_str_gives c.args.f.now

pub words-preserved : goal.words-preserved
words-preserved g c = put_next g.W.Write.write_str_gives word_text c.args.words.now _ c.words.word-index _ c.words.f _ c.words-test.true refl c.words.invariant (λ plain. c.in_ok-write.ensures.writes plain refl)

pub returns : goal.returns
returns g c = λ plain _. put_all g.W.Write.write_str_gives word_text c.args.words.now c.words.word-index _ _ c.words-test.false c.words.invariant plain
