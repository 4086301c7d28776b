-- What the lines of a scenario do to its state, and what they answer.
use Rattle.std.specs.Prelude.{◌≡◌, ℕ, zero, suc, ◌+◌, ◌<◌, cond, List, [], ◌++◌, set, replicate, Some, None, Ok, vec_items, vec_len, Option, Result, Vec}
use Rattle.std.specs.declared.alloc.AllocError.{AllocError}
use Rattle.std.specs.declared.alloc.Global.{Global}
use Rattle.refusal.specs.declared.Area.{Area}
use Rattle.refusal.specs.declared.Area.TheVariants.{Public, Key}
use Rattle.refusal.specs.declared.Refusal.{Refusal}
use Rattle.script.specs.declared.command.Call.{Call}
use Rattle.script.specs.declared.command.Call.TheVariants.{Check, Sign, Remask, Report}
use Rattle.script.specs.declared.command.SetName.{SetName}
use Rattle.script.specs.declared.command.Shown.{Shown}
use Rattle.script.specs.declared.command.Shown.TheVariants.{Bytes, Last}
use Rattle.script.specs.declared.command.Supply.{Supply}
use Rattle.script.specs.declared.stream.Stream.{Stream}
use Rattle.world.specs.Cards.{Calls, Loads, Supplies, feed_of, with_feed, with_key}
use Rattle.world.specs.Cards as cards
use Rattle.answers.specs.Texts.{answer_is_ok}
use Rattle.world.specs.Tills.{params_of, check_answer, till_after}
use Rattle.answers.specs.declared.answer.Answer.{Answer}
use Rattle.answers.specs.declared.answer.Answer.TheVariants.{Filled, Loaded}
use Rattle.life.specs.declared.call.Call.{Call as CardCall}
use Rattle.life.specs.declared.call.Call.TheVariants as calls
use Rattle.world.specs.declared.card_state.CardState.{CardState}
use Rattle.world.specs.declared.state.World.{World}
use Rattle.world.specs.declared.till_state.TillState.{TillState}

-- the public area: the words of a, and then those of t
abbrev pub public : World → List ℕ
public w = vec_items w.a ++ vec_items w.t

-- a world at the start
pub record Fresh (set : SetName) (w : World) : Type 0 where
  pub set_is : w.set ≡ set
  pub a_is : vec_items w.a ≡ replicate (params_of set).n 0
  pub t_is : vec_items w.t ≡ replicate (params_of set).n 0
  pub fresh_card : cards.Fresh (params_of set) w.card
  pub no_till : w.till ≡ None
  pub none_made : vec_items w.made ≡ []

-- a world with other words of a, other words of t, another till, or other things of the card, and else as it was
abbrev pub with_a : World → Vec ℕ Global → World
with_a w words = record { set = w.set; a = words; t = w.t; card = w.card; till = w.till; made = w.made }

abbrev pub with_t : World → Vec ℕ Global → World
with_t w words = record { set = w.set; a = w.a; t = words; card = w.card; till = w.till; made = w.made }

abbrev pub with_till : World → Option TillState → World
with_till w till = record { set = w.set; a = w.a; t = w.t; card = w.card; till = till; made = w.made }

abbrev pub with_card : World → CardState → World
with_card w card = record { set = w.set; a = w.a; t = w.t; card = card; till = w.till; made = w.made }

-- the words of an area
abbrev pub words_of : World → Area → List ℕ
words_of w Public = public w
words_of w Key = vec_items w.card.key

-- nothing but the words of an area may have changed
abbrev pub Elsewhere : Area → World → World → Type 0
Elsewhere Public w w' = (vec_len w'.a ≡ vec_len w.a) × (w' ≡ record { set = w.set; a = w'.a; t = w'.t; card = w.card; till = w.till; made = w.made })
Elsewhere Key w w' = w' ≡ with_card w (with_key w.card w'.card.key w.card.masks w.card.card)

-- a word of an area was written
pub record Pokes (area : Area) (index value : ℕ) (w w' : World) : Type 0 where
  pub written : words_of w' area ≡ set (words_of w area) index value
  pub elsewhere : Elsewhere area w w'

-- another source in a source's place
pub record FillLine (stream : Stream) (supply : Supply) (w : World) (a : Answer) (w' : World) : Type 0 where
  pub told : Result (Unit {0}) Refusal
  pub supplied : Supplies supply told (feed_of w.card stream) (feed_of w'.card stream)
  pub answered : a ≡ Filled stream told
  pub rest : w' ≡ with_card w (with_feed w.card stream (feed_of w'.card stream))

-- a load
pub record LoadLine (w : World) (a : Answer) (w' : World) : Type 0 where
  pub result : Result ℕ Refusal
  pub loads : Loads (params_of w.set) w.card (public w) result w'.card (public w')
  pub answered : a ≡ Loaded result
  pub split_stays : vec_len w'.a ≡ vec_len w.a
  pub rest : w' ≡ record { set = w.set; a = w'.a; t = w'.t; card = w'.card; till = w.till; made = w.made }

-- the bytes that a check shows
abbrev pub bytes_of : World → Shown → List ℕ
bytes_of w (Bytes v) = vec_items v
bytes_of w Last = vec_items w.made

-- with other things of the card and another last record, and else as it was
abbrev pub with_made : World → CardState → Vec ℕ Global → World
with_made w card made = record { set = w.set; a = w.a; t = w.t; card = card; till = w.till; made = made }

-- a call of the card
pub record CardLine (w : World) (call : CardCall) (a : Answer) (w' : World) : Type 0 where
  pub called : Calls (params_of w.set) call w.card.card w.card (public w) w.made a w'.card w'.made
  pub rest : w' ≡ with_made w w'.card w'.made

-- what a check answers, and the world after it
abbrev pub answer : World → Shown → Answer
answer w shown = check_answer w.set w.till (bytes_of w shown)

abbrev pub after : World → Shown → World
after w shown = with_till w (till_after w.set w.till (bytes_of w shown))

-- what a call answers, and the world after it
abbrev pub Called : World → Call → Answer → World → Type 0
Called w (Check shown) a w' = (a ≡ answer w shown) × (w' ≡ after w shown)
Called w (Sign digest tries) a w' = CardLine w (calls.Sign digest tries) a w'
Called w Remask a w' = CardLine w calls.Remask a w'
Called w Report a w' = CardLine w calls.Report a w'

-- a call of the till
abbrev pub OfCheck : Call → Type 0
OfCheck (Check shown) = Unit {0}
OfCheck (Sign digest tries) = ⊥
OfCheck Remask = ⊥
OfCheck Report = ⊥

-- a number of calls in a row: how many did what they were asked, the last answer, and the world after them
pub data Repeated (w : World) (call : Call) : ℕ → ℕ → Option Answer → World → Type 0 where
  none : Repeated w call 0 0 None w
  more : {n done : ℕ} {last : Option Answer} {was next : World} {a : Answer} → Repeated w call n done last was → Called was call a next → Repeated w call (n + 1) (done + cond (answer_is_ok a) 1 0) (Some a) next

-- where memory ended, fewer calls than were asked for were made, and the world is as these left it
pub record CutShort (w : World) (call : Call) (times : ℕ) (w' : World) : Type 0 where
  pub n : ℕ
  pub done : ℕ
  pub last : Option Answer
  pub fewer : n < times
  pub made : Repeated w call n done last w'

-- the world after a number of checks, how many did what they were asked, and the last answer
unfoldable pub after_calls : ℕ → World → Shown → World
after_calls zero w shown = w
after_calls (suc n) w shown = after (after_calls n w shown) shown

unfoldable pub done_calls : ℕ → World → Shown → ℕ
done_calls zero w shown = 0
done_calls (suc n) w shown = done_calls n w shown + cond (answer_is_ok (answer (after_calls n w shown) shown)) 1 0

unfoldable pub last_answer : ℕ → World → Shown → Option Answer
last_answer zero w shown = None
last_answer (suc n) w shown = Some (answer (after_calls n w shown) shown)

-- a number of checks in a row, which want no memory
abbrev pub RepeatsChecks : World → Call → ℕ → Result (ℕ × Option Answer) AllocError → World → Type 0
RepeatsChecks w (Check shown) times r w' = (r ≡ Ok (done_calls times w shown, last_answer times w shown)) × (w' ≡ after_calls times w shown)
RepeatsChecks w (Sign digest tries) times r w' = Unit {0}
RepeatsChecks w Remask times r w' = Unit {0}
RepeatsChecks w Report times r w' = Unit {0}
