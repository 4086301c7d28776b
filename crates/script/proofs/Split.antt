-- A text that is split at its spaces.
use Rattle.std.proofs.Common.{◌≡◌, ℕ, ◌<◌, Bool, true, false, inl, inr, List, ◌∷◌, ◌++◌, take, drop, Some, None, Option, Result, MatchOption, sym, ap, ◌∙◌, refl, append_assoc, lit<, Bor, arith}
use Rattle.std.proofs.lemmas.Str.Pattern.{IsSplitOnceResult, NoCharPasses-char, drop_at_char, split_parts}
use Rattle.std.specs.Option.{ok_or}
use Rattle.std.specs.Str.Iter.{LacksByte}
use Rattle.std.specs.Str.Pattern.{FindsChar, IsSplitAtFirstMatch}
use Rattle.std.proofs.Math.ListN.{take-append-drop}
use Rattle.script.proofs.Rows.{Cut}
use Rattle.script.specs.Answers.{Judges}
use Rattle.script.specs.Lines.{spaced}
use Rattle.script.specs.declared.unread.Unread.{Unread}
use Rattle.script.specs.declared.unread.Unread.TheVariants.{NotUnderstood}

-- a word of a text that is split at its spaces
first_part : (text word rest : List ℕ) (more : Bool) (o : Option (ℕ × ℕ)) → FindsChar 32 text o → MatchOption o ((word ≡ text) × (more ≡ false)) (λ q. 0 < q.1 → (word ≡ take q.0 text) × (more ≡ true) × (rest ≡ drop q.1 text)) → Cut text word more rest
first_part text word rest more None f m = (rw m.0 (λ k h. NoCharPasses-char 32 text k f (lit< tt) h), inl m)
first_part text word rest more (Some (i, j)) f m =
    let ends = f.1.ends in
    let cut = m (omega arith) in
    let at = drop_at_char 32 text i j f.1 (lit< tt) in
    let e : text ≡ take i text ++ (32 ∷ drop j text) = sym (take-append-drop i text) ∙ ap (λ (l : List ℕ). take i text ++ l) at in
    (rw cut.0 (λ k h. NoCharPasses-char 32 (take i text) k f.0 (lit< tt) h), inr (cut.1, rw (cut.0, cut.2) e))

pub part : (text word rest : List ℕ) (more : Bool) → IsSplitAtFirstMatch (FindsChar 32) text word more rest → Cut text word more rest
part text word rest more h = first_part text word rest more h.1.0 h.1.1 h.1.2

-- a text that is split at its first space, if it has one
pub parted_is : (text : List ℕ) (o : Option (Bor (List ℕ) × Bor (List ℕ))) (r : Result (Bor (List ℕ) × Bor (List ℕ)) Unread) → IsSplitOnceResult 32 text o → r ≡ ok_or o NotUnderstood
    → Judges (λ parts. (text ≡ parts.0.now ++ (32 ∷ parts.1.now)) × LacksByte 32 parts.0.now) (LacksByte 32 text) r
parted_is text None r h e = rw e (split_parts 32 text None h (lit< tt))
parted_is text (Some x) r h e = rw e (split_parts 32 text (Some x) h (lit< tt))

-- a line behind a name
pub spaced_under : (name word : List ℕ) (rest : Option (Bor (List ℕ))) → name ++ (32 ∷ spaced word rest) ≡ spaced (name ++ (32 ∷ word)) rest
spaced_under name word None = refl
spaced_under name word (Some rest) = sym (append_assoc name (32 ∷ word) (32 ∷ rest.now))
