use Rattle.std.proofs.Common.{sym, ◌∙◌, ltb-false, length}
use Rattle.world.specs.State.{words_of}
use Rattle.runner.proofs.line.carry_out.Goals as goal

pub returns-then-not-poke : goal.returns-then-not-poke
returns-then-not-poke c =
    let past = ltb-false c.in-Poke.index (length (words_of c.args.world.now c.in-Poke.area)) (sym c.poke.ensures.within ∙ c.if-not-poke.true) in
    (c.in-Poke.area, c.in-Poke.index, c.in-Poke.value, c.in-Poke.is, past, c.poke.ensures.after)
