-- What was read and written after some lines.
use Rattle.std.proofs.Common.{◌≡◌, ℕ, ◌+◌, ◌-◌, ◌<◌, List, [], ◌∷◌, ◌++◌, length, take, drop, Some, None, Ok, Err, Option, Result, OnOk, IfSome, sym, refl, ap, ◌∙◌, subst, arith, append_assoc, append-nil, take-add, take_all, length-drop, length-append}
use Rattle.std.specs.Io.KnownBytes.{Appends, Keeps, IsAtEnd}
use Rattle.std.specs.Io.BufRead.{first_piece, drop_through, DropsThrough}
use Rattle.world.specs.declared.state.World.{World}
use Rattle.runner.specs.Steps.{ComesTo}
use Rattle.runner.specs.Transcript.{Transcript, none, more, Transcribed, Begun, lines_of}
use Rattle.std.proofs.lemmas.Grind.{common_steps}
use Rattle.std.proofs.Math.Seq.{take-append-add}
use Rattle.runner.proofs.Lines.{lines_step}

-- what is known of a writer stays where nothing was written
pub kept : (a : Option (List ℕ)) → Keeps a a
kept None = tt
kept (Some xs) = refl

-- a fact that holds whatever a call answered
pub if_ok : {T E : Type 0} (r : Result T E) (P : Type 0) → P → OnOk r P
if_ok (Ok x) P h = h
if_ok (Err e) P h = tt

-- nothing written so far, one text behind another, and a flush
pub none_yet : (a : Option (List ℕ)) → Appends a a []
none_yet None = tt
none_yet (Some xs) = sym (append-nil xs)

pub appends_both : (a b c : Option (List ℕ)) (xs ys : List ℕ) → Appends a b xs → Appends b c ys → Appends a c (xs ++ ys)
appends_both None b c xs ys p q = tt
appends_both (Some a) None c xs ys p q = absurd p
appends_both (Some a) (Some b) None xs ys p q = absurd q
appends_both (Some a) (Some b) (Some c) xs ys p q = q ∙ ap (λ (l : List ℕ). l ++ ys) p ∙ append_assoc a xs ys

pub appends_keeps : (a b c : Option (List ℕ)) (xs : List ℕ) → Appends a b xs → Keeps b c → Appends a c xs
appends_keeps None b c xs p q = tt
appends_keeps (Some a) None c xs p q = absurd p
appends_keeps (Some a) (Some b) None xs p q = absurd q
appends_keeps (Some a) (Some b) (Some c) xs p q = q ∙ p

-- a part of what stands behind the first bytes of a text
pub appends_on : (a b c : Option (List ℕ)) (text : List ℕ) (at n : ℕ) → Appends a b (take at text) → Appends b c (take n (take (length text - at) (drop at text))) → Appends a c (take (at + n) text)
appends_on a b c text at n p q =
    let rest : take (length text - at) (drop at text) ≡ drop at text = take_all (length text - at) (drop at text) (omega (arith, length-drop at text)) in
    subst (Appends a c) (ap (λ (l : List ℕ). take at text ++ take n l) rest ∙ sym (take-add at n text)) (appends_both a b c _ _ p q)

-- the bytes that are left, the lines before them, and what these come to
pub record Carried (bytes : List ℕ) (left : Option (List ℕ)) (count : ℕ) (world : Option World) (text : List ℕ) : Type 0 where
  pub lines : List (List ℕ)
  pub rest : List ℕ
  pub left_is : left ≡ Some rest
  pub parts : lines_of bytes ≡ lines ++ lines_of rest
  pub counted : length lines ≡ count
  pub transcript : Transcript lines world text

-- that, of a reader whose bytes may not be known, and it was written
abbrev pub Reads : Option (List ℕ) → Option (List ℕ) → ℕ → Option World → Option (List ℕ) → Option (List ℕ) → Type 0
Reads all left count world old new = IfSome all (λ bytes. (text : List ℕ) × Carried bytes left count world text × Appends old new text)

-- a line that was read
abbrev pub ReadsLine : Option (List ℕ) → Option (List ℕ) → List ℕ → Type 0
ReadsLine left left' line = IfSome left (λ xs. (0 < length xs) × (line ≡ first_piece 10 xs)) × DropsThrough left left' 10

pub begin : (all left out : Option (List ℕ)) → left ≡ all → Reads all left 0 None out out
begin None left out e = tt
begin (Some bytes) left out e = ([], record { lines = []; rest = bytes; left_is = e; parts = refl; counted = refl; transcript = none }, none_yet out)

first_line : (line xs : List ℕ) → 0 < length xs → line ≡ first_piece 10 xs → lines_of xs ≡ line ∷ lines_of (drop_through 10 xs)
first_line line [] h e = absurd (omega arith)
first_line line (x ∷ xs) h e = lines_step x xs ∙ ap (λ (l : List ℕ). l ∷ lines_of (drop_through 10 (x ∷ xs))) (sym e)

one_more : (bytes : List ℕ) (left left' : Option (List ℕ)) (count : ℕ) (was next : Option World) (text line said : List ℕ)
    → Carried bytes left count was text → ReadsLine left left' line → ComesTo (count + 1) was line next said → Carried bytes left' (count + 1) next (text ++ said)
one_more bytes left left' count was next text line said s read comes =
    let here : (0 < length s.rest) × (line ≡ first_piece 10 s.rest) = rw s.left_is at read.0 in
    record {
      lines = s.lines ++ (line ∷ []);
      rest = drop_through 10 s.rest;
      left_is = rw s.left_is at read.1;
      parts = s.parts ∙ ap (λ (l : List (List ℕ)). s.lines ++ l) (first_line line s.rest here.0 here.1) ∙ sym (append_assoc s.lines (line ∷ []) (lines_of (drop_through 10 s.rest)));
      counted = length-append s.lines (line ∷ []) ∙ ap (λ (n : ℕ). n + 1) s.counted;
      transcript = more line s.transcript (subst (λ (n : ℕ). ComesTo (n + 1) was line next said) (sym s.counted) comes);
    }

-- one line more, told and written
pub go_on : (all left left' : Option (List ℕ)) (count : ℕ) (was next : Option World) (old mid new : Option (List ℕ)) (line said : List ℕ)
    → Reads all left count was old mid → ReadsLine left left' line → ComesTo (count + 1) was line next said → Appends mid new said → Reads all left' (count + 1) next old new
go_on None left left' count was next old mid new line said s read comes out = tt
go_on (Some bytes) left left' count was next old mid new line said s read comes out =
    (s.0 ++ said, one_more bytes left left' count was next s.0 line said s.1 read comes, appends_both old mid new s.0 said s.2 out)

-- at the end all of it was written
pub finish : (all left : Option (List ℕ)) (count : ℕ) (world : Option World) (old new last : Option (List ℕ)) → Reads all left count world old new → IsAtEnd left → Keeps new last → IfSome all (λ bytes. Transcribed bytes old last)
finish None left count world old new last s ended kept = tt
finish (Some bytes) left count world old new last s ended kept =
    let done = s.1 in
    let empty : done.rest ≡ [] = rw done.left_is at ended in
    let all : lines_of bytes ≡ done.lines = done.parts ∙ ap (λ (l : List ℕ). done.lines ++ lines_of l) empty ∙ append-nil done.lines in
    record { world = world; text = s.0; transcript = subst (λ (l : List (List ℕ)). Transcript l world s.0) (sym all) done.transcript; written = appends_keeps old new last s.0 s.2 kept }

-- the first lines of a list
front_of : (lines rest whole : List (List ℕ)) → whole ≡ lines ++ rest → take (length lines) whole ≡ lines
front_of lines rest whole e = grind (arith, common_steps)

-- a front of what the first lines come to
begun : (bytes : List ℕ) (left : Option (List ℕ)) (count : ℕ) (world : Option World) (text : List ℕ) (n : ℕ) (old new : Option (List ℕ)) → Carried bytes left count world text → Appends old new (take n text) → Begun bytes old new
begun bytes left count world text n old new done out = record {
  lines = length done.lines;
  world = world;
  text = text;
  count = n;
  transcript = subst (λ (l : List (List ℕ)). Transcript l world text) (sym (front_of done.lines (lines_of done.rest) (lines_of bytes) done.parts)) done.transcript;
  written = out;
}

-- an end between two lines
pub stop : (all left : Option (List ℕ)) (count : ℕ) (world : Option World) (old new last : Option (List ℕ)) → Reads all left count world old new → Keeps new last → IfSome all (λ bytes. Begun bytes old last)
stop None left count world old new last s kept = tt
stop (Some bytes) left count world old new last s kept =
    begun bytes left count world s.0 (length s.0) old last s.1 (subst (Appends old last) (sym (take_all (length s.0) s.0 (omega arith))) (appends_keeps old new last s.0 s.2 kept))

-- an end while a line's text is written
pub stop_within : (all left left' : Option (List ℕ)) (count n : ℕ) (was next : Option World) (old mid new : Option (List ℕ)) (line said : List ℕ)
    → Reads all left count was old mid → ReadsLine left left' line → ComesTo (count + 1) was line next said → Appends mid new (take n said) → IfSome all (λ bytes. Begun bytes old new)
stop_within None left left' count n was next old mid new line said s read comes out = tt
stop_within (Some bytes) left left' count n was next old mid new line said s read comes out =
    begun bytes left' (count + 1) next (s.0 ++ said) (length s.0 + n) old new (one_more bytes left left' count was next s.0 line said s.1 read comes)
    (subst (Appends old new) (sym (take-append-add s.0 said n)) (appends_both old mid new s.0 (take n said) s.2 out))
