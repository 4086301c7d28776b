use Rattle.std.proofs.Common.{rules}
use Rattle.std.proofs.lemmas.List.{set_past}
use Rattle.world.proofs.areas.poke.Goals as goal

pub returns : goal.returns
returns c = search (rules, set_past)
