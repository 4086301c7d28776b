use Rattle.std.proofs.Common.{false, refl, rules}
use Rattle.std.proofs.lemmas.Fmt.{hex_byte}
use Rattle.answers.proofs.Spellings.{put-none, put_next, put_all}
use Rattle.answers.proofs.text.write_hex.Goals as goal
use Rattle.answers.specs.Spelling.{hex_text}

pub bytes-init : goal.bytes-init
bytes-init g c = put-none g.W.Write.write_str_gives c.args.f.now

pub bytes-preserved : goal.bytes-preserved
bytes-preserved g c =
    let writes = rw (c.laid_out.ensures, c.in_radix.ensures) at c.in_ok-write.ensures.writes in
    put_next g.W.Write.write_str_gives hex_text c.args.bytes.now _ c.bytes.byte-index _ c.bytes.f _ c.bytes-test.true (hex_byte false _ (search rules)) c.bytes.invariant (λ plain. writes plain refl)

pub returns : goal.returns
returns g c = λ plain _. put_all g.W.Write.write_str_gives hex_text c.args.bytes.now c.bytes.byte-index _ _ c.bytes-test.false c.bytes.invariant plain
