-- What one line comes to: the world after it, and the text that is written for it.
use Rattle.std.specs.Prelude.{◌≡◌, ℕ, ◌<◌, ◌≤◌, ◌⊎◌, List, [], ◌∷◌, ◌++◌, length, Some, None, vec_items, codes, decimal, Option}
use Rattle.refusal.specs.Told.{area_name}
use Rattle.refusal.specs.declared.Area.{Area}
use Rattle.script.specs.Answers.{NoneIs}
use Rattle.script.specs.Lines.{Says}
use Rattle.script.specs.declared.command.Action.{Action}
use Rattle.script.specs.declared.command.Action.TheVariants.{WordsOfA, WordsOfT, Secret, Shares, Fill, Load, Work, Room, Poke, Show, NewTill, Once, Repeat}
use Rattle.script.specs.declared.command.Command.{Command}
use Rattle.script.specs.declared.command.Command.TheVariants.{Nothing, Start, Act}
use Rattle.script.specs.declared.unread.Unread.{Unread}
use Rattle.script.specs.declared.unread.Unread.TheVariants.{NotUnderstood, Memory}
use Rattle.answers.specs.Spelling.{spell, word_text}
use Rattle.answers.specs.Texts.{answer_text, told_text}
use Rattle.answers.specs.declared.answer.Answer.{Answer}
use Rattle.runner.specs.declared.telling.Telling.{Telling}
use Rattle.runner.specs.declared.telling.Telling.TheVariants.{Text, Words}
use Rattle.world.specs.Cards.{Reshared, with_secret, with_sizes}
use Rattle.world.specs.State.{Called, FillLine, Fresh, LoadLine, Pokes, Repeated, public, with_a, with_card, with_t, with_till, words_of}
use Rattle.world.specs.Tills.{Made, params_of}
use Rattle.world.specs.declared.state.World.{World}

-- a text as a line: a newline, 10, ends it
abbrev pub line_of : List ℕ → List ℕ
line_of text = text ++ (10 ∷ [])

-- an area as a line: its name, and its words
abbrev pub area_line : Area → List ℕ → List ℕ
area_line area words = line_of (area_name area ++ spell word_text words)

-- what a line is told, as a text: the one that was written for it, or an area
abbrev pub telling_text : Telling → List ℕ → List ℕ
telling_text Text written = written
telling_text (Words area words) written = area_line area (vec_items words)

-- the last answer of some calls, if there is one
abbrev pub last_text : Option Answer → World → List ℕ
last_text None w = []
last_text (Some a) w = line_of (told_text a (vec_items w.made))

-- how many of some calls did what they were asked, and the last answer
abbrev pub calls_text : (times done : ℕ) → Option Answer → World → List ℕ
calls_text times done last w = codes "repeated " ++ (decimal times ++ (codes " ok " ++ (decimal done ++ (codes "\n" ++ last_text last w))))

-- what a line does to a world, and its text
abbrev pub Acts : World → Action → World → List ℕ → Type 0
Acts w (WordsOfA v) w' text = (w' ≡ with_a w v) × (text ≡ [])
Acts w (WordsOfT v) w' text = (w' ≡ with_t w v) × (text ≡ [])
Acts w (Secret v) w' text = (w' ≡ with_card w (with_secret w.card v)) × (text ≡ [])
Acts w (Shares m) w' text = Reshared (params_of w.set) m w.card w'.card × (w' ≡ with_card w w'.card) × (text ≡ [])
Acts w (Fill stream supply) w' text = (a : Answer) × FillLine stream supply w a w' × (text ≡ line_of (answer_text a))
Acts w Load w' text = (a : Answer) × LoadLine w a w' × (text ≡ line_of (answer_text a))
Acts w (Work n) w' text = (w' ≡ with_card w (with_sizes w.card n w.card.room)) × (text ≡ [])
Acts w (Room n) w' text = (w' ≡ with_card w (with_sizes w.card w.card.work n)) × (text ≡ [])
Acts w (Poke area index value) w' text = (index < length (words_of w area)) × Pokes area index value w w' × (text ≡ [])
Acts w (Show area) w' text = (w' ≡ w) × (text ≡ area_line area (words_of w area))
Acts w (NewTill last) w' text = Made (public w) last w'.till × (w' ≡ with_till w w'.till) × (text ≡ [])
Acts w (Once call) w' text = (a : Answer) × Called w call a w' × (text ≡ line_of (told_text a (vec_items w'.made)))
Acts w (Repeat times call) w' text = (done : ℕ) × (last : Option Answer) × Repeated w call times done last w' × (text ≡ calls_text times done last w')

-- an action that was not carried out: it pokes past the end of its area, which writes nothing; or memory ended
abbrev pub Fails : World → Action → World → Unread → Type 0
Fails w action w' NotUnderstood = (area : Area) × (index : ℕ) × (value : ℕ) × (action ≡ Poke area index value) × (length (words_of w area) ≤ index) × Pokes area index value w w'
Fails w action w' Memory = Unit {0}

-- what a command does; before a set is chosen there is no world to act on
abbrev pub Does : Option World → Command → Option World → List ℕ → Type 0
Does w Nothing w' text = (w' ≡ w) × (text ≡ [])
Does w (Start set) w' text = (next : World) × Fresh set next × (w' ≡ Some next) × (text ≡ [])
Does None (Act action) w' text = ⊥
Does (Some w) (Act action) w' text = (next : World) × Acts w action next text × (w' ≡ Some next)

-- a line that is carried out
abbrev pub Takes : Option World → List ℕ → Option World → List ℕ → Type 0
Takes w line w' text = (command : Command) × Says line command × Does w command w' text

-- a line that pokes past the end of an area, which writes nothing
abbrev pub PokesPast : Option World → List ℕ → Option World → Type 0
PokesPast None line w' = ⊥
PokesPast (Some w) line w' = (action : Action) × (next : World) × Says line (Act action) × Fails w action next NotUnderstood × (w' ≡ Some next)

-- a line that wants a set, where none is chosen yet
abbrev pub Early : Option World → List ℕ → Type 0
Early None line = (action : Action) × Says line (Act action)
Early (Some w) line = ⊥

-- a line that is not understood: it says no command, or it comes too early, and nothing changes; or it pokes past an end
abbrev pub Misses : Option World → List ℕ → Option World → Type 0
Misses w line w' = ((NoneIs (Says line) ⊎ Early w line) × (w' ≡ w)) ⊎ PokesPast w line w'

-- a line that was not carried out: it is not understood, or memory ended
abbrev pub Stays : Option World → List ℕ → Option World → Unread → Type 0
Stays w line w' NotUnderstood = Misses w line w'
Stays w line w' Memory = Unit {0}

-- what is told of a line that is not understood
abbrev pub not_understood : ℕ → List ℕ
not_understood number = codes "line " ++ (decimal number ++ codes " not understood\n")

-- what the line of this number comes to: it is carried out, or not understood
abbrev pub ComesTo : ℕ → Option World → List ℕ → Option World → List ℕ → Type 0
ComesTo number w line w' text = Takes w line w' text ⊎ (Misses w line w' × (text ≡ not_understood number))
