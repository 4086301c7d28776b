use Rattle.std.proofs.Common.{ℕ, List, Option, sym, subst, Bor}
use Rattle.script.specs.Lines.{Fills, spaced}
use Rattle.script.specs.Streams.{stream_name}
use Rattle.script.proofs.line.fill.Goals as goal

pub returns : goal.returns
returns c =
    let name = stream_name c.args.stream in
    subst (λ (rest : Option (Bor (List ℕ))). Fills name (spaced name rest) c.in_ok-supply.field-0) (sym c.in_ok-text.ensures.ok_part) (c.in_ok-supply.ensures name)
