-- What was written of a text whose parts are written one behind another.
use Rattle.std.proofs.Common.{◌≡◌, ℕ, ◌+◌, ◌<◌, List, [], ◌∷◌, ◌++◌, length, get_or, min, take, drop, Option, sym, ap, ◌∙◌, subst, arith, append_assoc}
use Rattle.std.specs.Io.KnownBytes.{Appends}
use Rattle.std.proofs.Math.Seq.{take-append-add}
use Rattle.std.proofs.lemmas.List.{take-append-drop, take-append-le, take_min}
use Rattle.answers.specs.Spelling.{spell, word_text}
use Rattle.answers.proofs.Spellings.{spell_join, spell_more}
use Rattle.runner.proofs.SoFar.{none_yet, appends_both}

-- a front of a text was written
abbrev pub Front : Option (List ℕ) → Option (List ℕ) → List ℕ → Type 0
Front old new text = (count : ℕ) × Appends old new (take count text)

pub nothing : (a : Option (List ℕ)) (xs : List ℕ) → Front a a xs
nothing a xs = (0, none_yet a)

-- a front of the first part; and one of the second, once the first is written
pub in_first : (a b : Option (List ℕ)) (xs ys : List ℕ) → Front a b xs → Front a b (xs ++ ys)
in_first a b xs ys front =
    let n = min front.0 (length xs) in
    (n, subst (Appends a b) (sym (take-append-le n xs ys (omega arith) ∙ take_min front.0 xs)) front.1)

pub in_second : (a b c : Option (List ℕ)) (xs ys : List ℕ) → Appends a b xs → Front b c ys → Front a c (xs ++ ys)
in_second a b c xs ys first front =
    (length xs + front.0, subst (Appends a c) (sym (take-append-add xs ys front.0)) (appends_both a b c xs (take front.0 ys) first front.1))

-- some words, and the others
spell_parts : (text : ℕ → List ℕ) (xs : List ℕ) (i : ℕ) → spell text xs ≡ spell text (take i xs) ++ spell text (drop i xs)
spell_parts text xs i = sym (ap (spell text) (take-append-drop i xs)) ∙ spell_join text (take i xs) (drop i xs)

-- what an area's line comes to after some of its words
abbrev pub so_far : List ℕ → List ℕ → ℕ → List ℕ
so_far name words i = name ++ spell word_text (take i words)

-- some of that was written, and the rest stands ready
abbrev pub Ready : Option (List ℕ) → Option (List ℕ) → (ready text : List ℕ) → Type 0
Ready old new ready text = (done : List ℕ) × Appends old new done × (done ++ ready ≡ text)

-- a part of what stands ready is written
pub ready_moved : (a b c : Option (List ℕ)) (ready ready' text : List ℕ) → Ready a b ready text → (moved : List ℕ) × Appends b c moved × (moved ++ ready' ≡ ready) → Ready a c ready' text
ready_moved a b c ready ready' text r m =
    (r.0 ++ m.0, appends_both a b c r.0 m.0 r.1 m.1, append_assoc r.0 m.0 ready' ∙ ap (λ (l : List ℕ). r.0 ++ l) m.2 ∙ r.2)

-- more stands ready
pub ready_more : (a b : Option (List ℕ)) (ready ready' text more : List ℕ) → ready' ≡ ready ++ more → Ready a b ready text → Ready a b ready' (text ++ more)
ready_more a b ready ready' text more is r =
    (r.0, r.1, ap (λ (l : List ℕ). r.0 ++ l) is ∙ sym (append_assoc r.0 ready more) ∙ ap (λ (l : List ℕ). l ++ more) r.2)

-- a front of what stands ready is written
pub ready_front : (a b c : Option (List ℕ)) (ready text : List ℕ) → Ready a b ready text → Front b c ready → Front a c text
ready_front a b c ready text r front = subst (Front a c) r.2 (in_second a b c r.0 ready r.1 front)

-- one word more
pub one_word : (name words : List ℕ) (i : ℕ) → i < length words → so_far name words i ++ word_text (get_or words i 0) ≡ so_far name words (i + 1)
one_word name words i below =
    append_assoc name (spell word_text (take i words)) (word_text (get_or words i 0)) ∙ ap (λ (l : List ℕ). name ++ l) (sym (spell_more word_text words i below))

-- a front of a line after some words is one of the whole line
pub of_line : (a b : Option (List ℕ)) (name words : List ℕ) (i : ℕ) → Front a b (so_far name words i) → Front a b ((name ++ spell word_text words) ++ (10 ∷ []))
of_line a b name words i front =
    let parts : name ++ spell word_text words ≡ so_far name words i ++ spell word_text (drop i words) =
    ap (λ (l : List ℕ). name ++ l) (spell_parts word_text words i) ∙ sym (append_assoc name (spell word_text (take i words)) (spell word_text (drop i words))) in
    in_first a b (name ++ spell word_text words) (10 ∷ []) (subst (Front a b) (sym parts) (in_first a b (so_far name words i) (spell word_text (drop i words)) front))
