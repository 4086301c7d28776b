use Rattle.std.proofs.Common.{◌≡◌, ℕ, ◌/◌, List, [], map, length, get_or, ap, ◌∙◌, arith}
use Rattle.record.proofs.Fill.{four_in, packed-fours, written_all, written-more}
use Rattle.record.proofs.writer.write_challenge.Goals as goal

pub loop-i-preserved : goal.loop-i-preserved
loop-i-preserved c =
    let fours = c.as_chunks.result.0.now in
    let byte : c.pack.result ≡ four_in (get_or fours c.loop-i.i []) = cc in
    written-more four_in c.loop-i.part fours c.loop-i.i [] c.pack.result (omega arith) (omega arith) c.loop-i.invariant byte

pub returns : goal.returns
returns c =
    let residues = c.args.residues.now in
    written_all four_in c.loop-i.part c.as_chunks.result.0.now c.loop-i.i (omega arith) (omega arith) c.loop-i.invariant
    ∙ ap (λ (xs : List (List ℕ)). map four_in xs) c.as_chunks.ensures.front
    ∙ packed-fours (length residues / 4) residues (omega arith)
