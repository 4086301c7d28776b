use Rattle.std.proofs.Common.{◌≤◌}
use Rattle.world.specs.State.{Repeated}
use Rattle.world.proofs.state.World.repeat.Given as goal

abbrev pub invariant-calls : goal.invariant-calls
invariant-calls l = (l.done ≤ l.counter) × Repeated l.initial.self l.call l.counter l.done l.last l.self
