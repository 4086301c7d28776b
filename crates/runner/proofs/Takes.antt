-- A line whose command or whose want of one is known.
use Rattle.std.proofs.Common.{◌≡◌, ℕ, List, Some, Ok, Err, Option, Result, IfOk, MatchResult, inr, refl}
use Rattle.std.specs.declared.alloc.AllocError.{AllocError}
use Rattle.script.specs.Lines.{Says}
use Rattle.script.specs.declared.command.Action.{Action}
use Rattle.script.specs.declared.command.Command.TheVariants.{Act}
use Rattle.script.specs.declared.unread.Unread.{Unread}
use Rattle.script.specs.declared.unread.Unread.TheVariants.{NotUnderstood, Memory}
use Rattle.world.specs.declared.state.World.{World}
use Rattle.runner.specs.declared.telling.Telling.{Telling}
use Rattle.runner.specs.Steps.{Acts, ComesTo, Fails, Misses, Stays, Takes, not_understood, telling_text}

-- a line that acts on a world
pub acted : (was next : World) (line : List ℕ) (action : Action) → Says line (Act action)
    → (written : List ℕ) (r : Result Telling Unread) → MatchResult r (λ told. Acts was action next (telling_text told written)) (Fails was action next)
    → MatchResult r (λ told. Takes (Some was) line (Some next) (telling_text told written)) (Stays (Some was) line (Some next))
acted was next line action says written (Ok told) h = (Act action, says, (next, h, refl))
acted was next line action says written (Err NotUnderstood) h = inr (action, next, says, h, refl)
acted was next line action says written (Err Memory) h = tt

-- a line that is not understood
pub untold : (was next : Option World) (line : List ℕ) (number : ℕ) → Misses was line next → (written : List ℕ) (r : Result Telling AllocError) → IfOk r (λ told. telling_text told written ≡ not_understood number) → IfOk r (λ told. ComesTo number was line next (telling_text told written))
untold was next line number missed written (Ok told) h = inr (missed, h)
untold was next line number missed written (Err e) h = tt
