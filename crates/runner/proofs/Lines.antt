-- The first line of a text, and the others.
use Rattle.std.proofs.Common.{◌≡◌, ℕ, Bool, true, false, cond, List, [], ◌∷◌, take, ◌==◌, sym, refl, ap, ◌∙◌, arith}
use Rattle.std.specs.Io.BufRead.{take_through, drop_through, first_piece, strip_last}
use Rattle.std.proofs.lemmas.Grind.{common_steps}
use Rattle.runner.specs.Transcript.{lines_of, onto_first}

-- a byte in front of some others is not the last of them
strip_cons : (x y : ℕ) (t : List ℕ) → strip_last 10 (x ∷ y ∷ t) ≡ x ∷ strip_last 10 (y ∷ t)
strip_cons x y t = grind (arith, common_steps)

strip_behind : (x y : ℕ) (ys : List ℕ) → strip_last 10 (x ∷ take_through 10 (y ∷ ys)) ≡ x ∷ first_piece 10 (y ∷ ys)
strip_behind x y ys = at (y == 10)
  where
    at : (b : Bool) → strip_last 10 (x ∷ cond b (y ∷ []) (y ∷ take_through 10 ys)) ≡ x ∷ strip_last 10 (cond b (y ∷ []) (y ∷ take_through 10 ys))
    at true = strip_cons x y []
    at false = strip_cons x y (take_through 10 ys)

alone : (x : ℕ) → strip_last 10 (x ∷ []) ≡ cond (x == 10) [] (x ∷ [])
alone x = at (x == 10)
  where
    at : (b : Bool) → cond b (take 0 (x ∷ [])) (x ∷ []) ≡ cond b [] (x ∷ [])
    at true = refl
    at false = refl

-- a text that is not empty has a first line, and behind it the lines of what stands behind that
pub lines_step : (x : ℕ) (xs : List ℕ) → lines_of (x ∷ xs) ≡ first_piece 10 (x ∷ xs) ∷ lines_of (drop_through 10 (x ∷ xs))
lines_step x [] = at (x == 10) (alone x)
  where
    at : (b : Bool) → strip_last 10 (x ∷ []) ≡ cond b [] (x ∷ []) → cond b ([] ∷ []) ((x ∷ []) ∷ []) ≡ strip_last 10 (cond b (x ∷ []) (x ∷ [])) ∷ lines_of (cond b [] [])
    at true e = ap (λ (l : List ℕ). l ∷ []) (sym e)
    at false e = ap (λ (l : List ℕ). l ∷ []) (sym e)
lines_step x (y ∷ ys) = at (x == 10) (alone x) (ap (onto_first x) (lines_step y ys))
  where
    at : (b : Bool) → strip_last 10 (x ∷ []) ≡ cond b [] (x ∷ []) → onto_first x (lines_of (y ∷ ys)) ≡ (x ∷ first_piece 10 (y ∷ ys)) ∷ lines_of (drop_through 10 (y ∷ ys)) → cond b ([] ∷ lines_of (y ∷ ys)) (onto_first x (lines_of (y ∷ ys))) ≡ strip_last 10 (cond b (x ∷ []) (x ∷ take_through 10 (y ∷ ys))) ∷ lines_of (cond b (y ∷ ys) (drop_through 10 (y ∷ ys)))
    at true e rest = ap (λ (l : List ℕ). l ∷ lines_of (y ∷ ys)) (sym e)
    at false e rest = rest ∙ ap (λ (l : List ℕ). l ∷ lines_of (drop_through 10 (y ∷ ys))) (sym (strip_behind x y ys))
