use Rattle.std.proofs.Common.{rules}
use Rattle.std.proofs.lemmas.List.{set-append_left, set-append_right, with_items_is}
use Rattle.world.proofs.state.World.poke_public.Goals as goal

pub returns-in-None-clause-public : goal.returns-in-None-clause-public
returns-in-None-clause-public c = search (rules, set-append_left, with_items_is)

pub returns-in-Some-clause-public : goal.returns-in-Some-clause-public
returns-in-Some-clause-public c = search (rules, set-append_right, with_items_is)
