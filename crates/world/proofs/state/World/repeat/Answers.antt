use Rattle.std.proofs.Common.{◌≡◌, ℕ, ◌+◌, Some, sym, ap, ◌∙◌, subst, arith}
use mir.Val.{bool_byte}
use Rattle.answers.specs.Texts.{answer_is_ok}
use Rattle.world.specs.State.{Repeated, none, more}
use Rattle.world.proofs.Checks.{bit, bit_le, repeats_done}
use Rattle.world.proofs.state.World.repeat.Goals as goal

pub calls-init : goal.calls-init
calls-init c = (omega arith, none)

pub calls-preserved : goal.calls-preserved
calls-preserved c =
    let inv = c.calls.invariant in
    let answer = c.in_ok-answer.answer in
    let once = more inv.1 c.in_ok-answer.ensures.called in
    let one = c.from-done.ensures ∙ ap bool_byte c.is_ok.ensures ∙ bit (answer_is_ok answer) in (
      omega (arith, c.from-done.ensures, bit_le c.is_ok.result),
      subst (λ (n : ℕ). Repeated c.args.self.now c.args.call.now (c.calls.counter + 1) (c.calls.done + n) (Some answer) c.call.new.self) (sym one) once,
    )

pub returns-clause-checks : goal.returns-clause-checks
returns-clause-checks c =
    let all : c.calls.counter ≡ c.args.times = omega (arith, c.calls-test.false, c.calls.auto.counter-end) in
    repeats_done c.args.self.now c.args.call.now c.args.times c.calls.done c.calls.last c.calls.self
    (subst (λ (n : ℕ). Repeated c.args.self.now c.args.call.now n c.calls.done c.calls.last c.calls.self) all c.calls.invariant.1)
