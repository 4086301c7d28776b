-- What the steps of the writer leave: fields one behind the other, and codes in a byte.
use Rattle.std.proofs.Common.{◌≡◌, ℕ, zero, suc, ◌+◌, ◌*◌, ◌<◌, ◌≤◌, List, [], ◌∷◌, ◌++◌, map, length, get_or, take, drop, set, sym, refl, ap, ◌∙◌, ap₂, arith}
use borrow.Rule.Slice.PartMut.{put_mid}
use Rattle.std.proofs.lemmas.List.{append-nil, drop_all, drop-drop, map_more, take_all, take_more_set}
use Rattle.std.proofs.lemmas.Slice.{take-put_mid}
use Rattle.std.specs.Simd.{first_chunks}
use Rattle.record.specs.Layout.{code_of, packed}

-- a field behind what is done, and the last
module _ (a k : ℕ) (area field done value : List ℕ) (before : take a area ≡ done) (is : field ≡ value) where
  pub next_field : (e : ℕ) → e ≡ a + length value → a ≤ length area → take e (put_mid a k area field) ≡ done ++ value
  next_field e l h = ap (λ (xs : List ℕ). take e (put_mid a k area xs)) is ∙ take-put_mid a k area value e l h ∙ ap (λ (xs : List ℕ). xs ++ value) before

  pub last-field : length area ≤ a + k → put_mid a k area field ≡ done ++ value
  last-field h =
      let none : drop k (drop a area) ≡ [] = drop-drop k a area ∙ drop_all (a + k) area h in
      ap₂ (λ (xs ys : List ℕ). xs ++ (field ++ ys)) before none ∙ ap (λ (xs : List ℕ). done ++ xs) (append-nil field ∙ is)

-- a loop that writes f of each element of xs, place by place
module _ {A : Type 0} (f : A → ℕ) (out : List ℕ) (xs : List A) (i : ℕ) where
  pub written-more : (d : A) (v : ℕ) → i < length out → i < length xs → take i out ≡ map f (take i xs) → v ≡ f (get_or xs i d)
      → take (i + 1) (set out i v) ≡ map f (take (i + 1) xs)
  written-more d v h k e q = take_more_set out i v h ∙ ap₂ (λ (ys : List ℕ) (y : ℕ). ys ++ y ∷ []) e q ∙ sym (map_more f xs i d k)

  pub written_all : length out ≤ i → length xs ≤ i → take i out ≡ map f (take i xs) → out ≡ map f xs
  written_all h k e = sym (take_all i out h) ∙ e ∙ ap (map f) (take_all i xs k)

-- the byte of four residues
abbrev pub four_in : List ℕ → ℕ
four_in xs = code_of (get_or xs 0 0) + 4 * code_of (get_or xs 1 0) + 16 * code_of (get_or xs 2 0) + 64 * code_of (get_or xs 3 0)

pub packed-fours : (k : ℕ) (xs : List ℕ) → length xs ≡ 4 * k → map four_in (first_chunks 4 k xs) ≡ packed (map code_of xs)
packed-fours zero [] h = refl
packed-fours zero (a ∷ xs) h = absurd (omega arith)
packed-fours (suc k) [] h = absurd (omega arith)
packed-fours (suc k) (a ∷ []) h = absurd (omega arith)
packed-fours (suc k) (a ∷ b ∷ []) h = absurd (omega arith)
packed-fours (suc k) (a ∷ b ∷ c ∷ []) h = absurd (omega arith)
packed-fours (suc k) (a ∷ b ∷ c ∷ d ∷ xs) h = ap (λ (bytes : List ℕ). four_in (a ∷ b ∷ c ∷ d ∷ []) ∷ bytes) (packed-fours k xs (omega arith))
