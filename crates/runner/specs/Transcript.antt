-- What all lines of a scenario come to.
use Rattle.std.specs.Prelude.{ℕ, ◌+◌, List, [], ◌∷◌, ◌++◌, ◌==◌, if◌then◌else◌, length, take, Option, None}
use Rattle.std.specs.Io.KnownBytes.{Appends}
use Rattle.world.specs.declared.state.World.{World}
use Rattle.runner.specs.Steps.{ComesTo}

-- a byte before the first of some lines
abbrev pub onto_first : ℕ → List (List ℕ) → List (List ℕ)
onto_first byte [] = (byte ∷ []) ∷ []
onto_first byte (line ∷ lines) = (byte ∷ line) ∷ lines

-- the lines of a text: each ends at a newline, 10, and the last may end with the text
abbrev pub lines_of : List ℕ → List (List ℕ)
lines_of [] = []
lines_of (byte ∷ rest) = if byte == 10 then [] ∷ lines_of rest else onto_first byte (lines_of rest)

-- lines, the world that they leave, and what they come to: each line goes on from the world that those before it leave, and
-- its text stands behind theirs. Before the first line there is no world.
pub data Transcript : List (List ℕ) → Option World → List ℕ → Type 0 where
  none : Transcript [] None []
  more : {lines : List (List ℕ)} {was next : Option World} {text said : List ℕ} (line : List ℕ) → Transcript lines was text → ComesTo (length lines + 1) was line next said → Transcript (lines ++ (line ∷ [])) next (text ++ said)

-- what all lines of these bytes come to was written
pub record Transcribed (bytes : List ℕ) (old new : Option (List ℕ)) : Type 0 where
  pub world : Option World
  pub text : List ℕ
  pub transcript : Transcript (lines_of bytes) world text
  pub written : Appends old new text

-- a front of what the first lines of these bytes come to was written
pub record Begun (bytes : List ℕ) (old new : Option (List ℕ)) : Type 0 where
  pub lines : ℕ
  pub world : Option World
  pub text : List ℕ
  pub count : ℕ
  pub transcript : Transcript (take lines (lines_of bytes)) world text
  pub written : Appends old new (take count text)
