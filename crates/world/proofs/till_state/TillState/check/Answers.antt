use Rattle.std.proofs.Common.{rules}
use Rattle.world.specs.Tills.{verdict_of}
use Rattle.world.proofs.till_state.TillState.check.Goals as goal

pub returns : goal.returns
unfolding verdict_of
returns g c = search rules
