-- Checks in a row.
use Rattle.std.proofs.Common.{◌≡◌, ℕ, ◌+◌, ◌≤◌, Bool, true, false, cond, Some, Ok, Option, refl, add-one, arith}
use mir.Val.{bool_byte}
use Rattle.answers.specs.Texts.{answer_is_ok}
use Rattle.answers.specs.declared.answer.Answer.{Answer}
use Rattle.script.specs.declared.command.Call.{Call}
use Rattle.script.specs.declared.command.Call.TheVariants.{Check, Sign, Remask, Report}
use Rattle.script.specs.declared.command.Shown.{Shown}
use Rattle.world.specs.State.{Repeated, none, more, RepeatsChecks, after, after_calls, answer, done_calls, last_answer}
use Rattle.world.specs.declared.state.World.{World}

-- a test as a number
pub bit : (b : Bool) → bool_byte b ≡ cond b 1 0
bit true = refl
bit false = refl

pub bit_le : (b : Bool) → bool_byte b ≤ 1
bit_le true = omega arith
bit_le false = omega arith

abbrev Counted : World → Shown → (n done : ℕ) → Option Answer → World → Type 0
Counted w shown n done last w' = (done ≡ done_calls n w shown) × (last ≡ last_answer n w shown) × (w' ≡ after_calls n w shown)

counted_more : (n done : ℕ) (w was next : World) (last : Option Answer) (shown : Shown) (a : Answer) → Counted w shown n done last was → (a ≡ answer was shown) × (next ≡ after was shown) → Counted w shown (n + 1) (done + cond (answer_is_ok a) 1 0) (Some a) next
unfolding after_calls done_calls last_answer
counted_more n done w was next last shown a before once = rw (add-one, before.0, ← before.2, once.0, once.1) (refl, refl, refl)

pub counted : (w : World) (shown : Shown) (n done : ℕ) (last : Option Answer) (w' : World) → Repeated w (Check shown) n done last w' → Counted w shown n done last w'
unfolding after_calls done_calls last_answer
counted w shown n done last w' none = (refl, refl, refl)
counted w shown n done last w' (more {n = k} {done = d} {last = l} {was = was} {next = next} {a = a} before once) = counted_more k d w was next l shown a (counted w shown k d l was before) once

pub repeats_done : (w : World) (call : Call) (n done : ℕ) (last : Option Answer) (w' : World) → Repeated w call n done last w' → RepeatsChecks w call n (Ok (done, last)) w'
repeats_done w (Check shown) n done last w' r = let c = counted w shown n done last w' r in (rw (c.0, c.1) refl, c.2)
repeats_done w (Sign digest tries) n done last w' r = tt
repeats_done w Remask n done last w' r = tt
repeats_done w Report n done last w' r = tt
