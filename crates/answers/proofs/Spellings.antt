-- Texts one after another.
use Rattle.std.proofs.Common.{◌≡◌, ℕ, ◌+◌, ◌<◌, ◌≤◌, List, [], ◌∷◌, ◌++◌, length, get_or, take, refl, sym, ap, ◌∙◌, append_assoc, append-nil}
use Rattle.std.proofs.Output.{has_written_of_eq, has_written_append, writes_in_calls_nil}
use Rattle.std.specs.Fmt.{IsPlainFormatter, HasWritten}
use Rattle.std.specs.declared.fmt.Formatter.{Formatter}
use Rattle.std.proofs.lemmas.List.{take_all, take_more}
use Rattle.answers.specs.Spelling.{spell}

pub spell_join : (text : ℕ → List ℕ) (xs ys : List ℕ) → spell text (xs ++ ys) ≡ spell text xs ++ spell text ys
spell_join text [] ys = refl
spell_join text (x ∷ xs) ys = ap (λ (l : List ℕ). text x ++ l) (spell_join text xs ys) ∙ sym (append_assoc (text x) (spell text xs) (spell text ys))

-- one text more
pub spell_more : (text : ℕ → List ℕ) (xs : List ℕ) (i : ℕ) → i < length xs → spell text (take (i + 1) xs) ≡ spell text (take i xs) ++ text (get_or xs i 0)
spell_more text xs i h =
    ap (spell text) (take_more xs i 0 h) ∙ spell_join text (take i xs) (get_or xs i 0 ∷ []) ∙ ap (λ (l : List ℕ). spell text (take i xs) ++ l) (append-nil (text (get_or xs i 0)))

-- the same of a writer: the texts so far, the next one, and all
module _ {W : Type 0} (took : W → List ℕ → W → Type 0) where
  pub put-none : (f : Formatter W) → IsPlainFormatter f → HasWritten took f [] f
  put-none f plain = record { wrote = writes_in_calls_nil took f.writer; plain = plain }

  pub put_next : (text : ℕ → List ℕ) (xs one : List ℕ) (i : ℕ) (f g h : Formatter W) → i < length xs → one ≡ text (get_or xs i 0) → (IsPlainFormatter f → HasWritten took f (spell text (take i xs)) g) → (IsPlainFormatter g → HasWritten took g one h) → IsPlainFormatter f → HasWritten took f (spell text (take (i + 1) xs)) h
  put_next text xs one i f g h below is so_far next plain =
      let p = so_far plain in
      has_written_of_eq took f _ _ h (ap (λ (l : List ℕ). spell text (take i xs) ++ l) is ∙ sym (spell_more text xs i below)) (has_written_append took f (spell text (take i xs)) g one h p (next p.plain))

  pub put_all : (text : ℕ → List ℕ) (xs : List ℕ) (i : ℕ) (f g : Formatter W) → length xs ≤ i → (IsPlainFormatter f → HasWritten took f (spell text (take i xs)) g) → IsPlainFormatter f → HasWritten took f (spell text xs) g
  put_all text xs i f g past so_far plain = has_written_of_eq took f _ _ g (ap (spell text) (take_all i xs past)) (so_far plain)
