-- A till of a scenario: what it answers, and what becomes of it.
use Rattle.std.specs.Prelude.{◌≡◌, ℕ, List, Some, None, vec_items, Option, Result}
use Rattle.params.specs.Params.{Params, set_s, set_i}
use Rattle.refusal.specs.declared.Refusal.{Refusal}
use Rattle.script.specs.declared.command.SetName.{SetName}
use Rattle.script.specs.declared.command.SetName.TheVariants.{S, I}
use Rattle.till.specs.declared.payment.Payment.{Payment}
use Rattle.till.specs.Verdict.{verdict, last_after}
use Rattle.answers.specs.declared.answer.Answer.{Answer}
use Rattle.answers.specs.declared.answer.Answer.TheVariants.{Checked, NoTill}
use Rattle.world.specs.declared.till_state.TillState.{TillState}

-- the numbers of a set
abbrev pub params_of : SetName → Params
params_of S = set_s
params_of I = set_i

-- a till that was made with this key area and this last counter
abbrev pub Made : List ℕ → Option ℕ → Option TillState → Type 0
Made key last None = ⊥
Made key last (Some s) = (vec_items s.key ≡ key) × (s.last ≡ last)

-- a till's verdict on bytes
unfoldable pub verdict_of : Params → TillState → List ℕ → Result Payment Refusal
verdict_of params s bytes = verdict params (vec_items s.key) s.last bytes

-- what a check answers, where there is a till or none
abbrev pub check_answer : SetName → Option TillState → List ℕ → Answer
check_answer set None bytes = NoTill
check_answer set (Some s) bytes = Checked (verdict_of (params_of set) s bytes)

-- the till after it: its last counter goes by the verdict
abbrev pub till_after : SetName → Option TillState → List ℕ → Option TillState
till_after set None bytes = None
till_after set (Some s) bytes = Some (record { key = s.key; last = last_after s.last (verdict_of (params_of set) s bytes) })
