-- The lines of a scenario, and what each asks for. Words are parted by one space, 32.
-- A line that says a command is read as one that it says, and a line that says none is not understood.
use Rattle.std.specs.Prelude.{◌≡◌, ℕ, ◌<◌, ◌⊎◌, List, [], ◌∷◌, ◌++◌, length, Some, None, vec_items, codes, Option}
use Rattle.std.specs.Borrow.{Bor}
use Rattle.refusal.specs.Told.{area_name}
use Rattle.script.specs.Streams.{stream_name}
use Rattle.script.specs.Words.{Number, Integer, Writes, Spells}
use Rattle.script.specs.declared.command.Action.{Action}
use Rattle.script.specs.declared.command.Action.TheVariants.{WordsOfA, WordsOfT, Secret, Shares, Fill, Load, Work, Room, Poke, Show, NewTill, Once, Repeat}
use Rattle.script.specs.declared.command.Call.{Call}
use Rattle.script.specs.declared.command.Call.TheVariants.{Check, Sign, Remask, Report}
use Rattle.script.specs.declared.command.Command.{Command}
use Rattle.script.specs.declared.command.Command.TheVariants.{Nothing, Start, Act}
use Rattle.script.specs.declared.command.SetName.TheVariants.{S, I}
use Rattle.script.specs.declared.command.Shown.TheVariants.{Bytes, Last}
use Rattle.script.specs.declared.command.Supply.{Supply}
use Rattle.script.specs.declared.command.Supply.TheVariants.{Tape, Generator, Health}

-- a line that asks for nothing: an empty one, or one that begins with #
abbrev pub Quiet : List ℕ → Type 0
Quiet [] = Unit {0}
Quiet (byte ∷ rest) = byte ≡ 35

-- a name and the values of a list: the name alone, with no values, or the name and a text that writes them
abbrev pub Listed : {A : Type 0} → (List ℕ → A → Type 0) → List ℕ → List ℕ → List A → Type 0
Listed write name line values = ((line ≡ name) × (values ≡ [])) ⊎ ((text : List ℕ) × (line ≡ name ++ (32 ∷ text)) × Writes write text values)

-- a name and one value
abbrev pub Valued : {A : Type 0} → (List ℕ → A → Type 0) → List ℕ → List ℕ → A → Type 0
Valued write name line x = (word : List ℕ) × (line ≡ name ++ (32 ∷ word)) × write word x

-- a name and one number, at most max
abbrev pub Numbered : List ℕ → ℕ → List ℕ → ℕ → Type 0
Numbered name max line n = Valued (Number max) name line n

-- a word source's name and what the source becomes; a seed is 32 bytes
abbrev pub Fills : List ℕ → List ℕ → Supply → Type 0
Fills name line (Tape v) = Listed (Number 4294967295) (name ++ codes " tape") line (vec_items v)
Fills name line (Generator seed count) = (word : List ℕ) × (digits : List ℕ) × (line ≡ name ++ (codes " generator " ++ (word ++ (32 ∷ digits)))) × Spells word seed × (length seed ≡ 32) × Number 18446744073709551615 digits count
Fills name line (Health cutoff) = Numbered (name ++ codes " health") 4294967295 line cutoff

-- the lines that may be repeated; a digest is 32 bytes
abbrev pub Calls : List ℕ → Call → Type 0
Calls line (Check Last) = line ≡ codes "check last"
Calls line (Check (Bytes v)) = ((line ≡ codes "check") × (vec_items v ≡ [])) ⊎ ((word : List ℕ) × (line ≡ codes "check " ++ word) × Spells word (vec_items v))
Calls line (Sign digest tries) = (word : List ℕ) × (digits : List ℕ) × (line ≡ codes "sign " ++ (word ++ (32 ∷ digits))) × Spells word digest × (length digest ≡ 32) × Number 4294967295 digits tries
Calls line Remask = line ≡ codes "remask"
Calls line Report = line ≡ codes "report"

-- the lines that want a set to have been chosen
abbrev pub Asks : List ℕ → Action → Type 0
Asks line (WordsOfA v) = Listed (Number 4294967295) (codes "a") line (vec_items v)
Asks line (WordsOfT v) = Listed (Number 4294967295) (codes "t") line (vec_items v)
Asks line (Secret v) = Listed Integer (codes "secret") line (vec_items v)
Asks line (Shares m) = Numbered (codes "shares") 255 line m
Asks line (Fill stream supply) = Fills (stream_name stream) line supply
Asks line Load = line ≡ codes "load"
Asks line (Work n) = Numbered (codes "work") 4294967295 line n
Asks line (Room n) = Numbered (codes "room") 4294967295 line n
Asks line (Poke area index value) = (i : List ℕ) × (w : List ℕ) × (line ≡ codes "poke " ++ (area_name area ++ (32 ∷ (i ++ (32 ∷ w))))) × Number 18446744073709551615 i index × Number 4294967295 w value
Asks line (Show area) = line ≡ codes "show " ++ area_name area
Asks line (NewTill None) = line ≡ codes "till"
Asks line (NewTill (Some last)) = Numbered (codes "till") 65535 line last
Asks line (Once call) = Calls line call
Asks line (Repeat times call) = (count : List ℕ) × (rest : List ℕ) × (line ≡ codes "repeat " ++ (count ++ (32 ∷ rest))) × Number 4294967295 count times × (0 < times) × Calls rest call

-- every line, and its command
abbrev pub Says : List ℕ → Command → Type 0
Says line Nothing = Quiet line
Says line (Start S) = line ≡ codes "set S"
Says line (Start I) = line ≡ codes "set I"
Says line (Act action) = Asks line action

-- the line that begins with this word, and what stands behind the space after it, if there is one
abbrev pub spaced : List ℕ → Option (Bor (List ℕ)) → List ℕ
spaced word None = word
spaced word (Some rest) = word ++ (32 ∷ rest.now)
