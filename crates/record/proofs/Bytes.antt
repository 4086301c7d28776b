-- Numbers and their bytes, both ways.
use Rattle.std.proofs.Common.{◌≡◌, ℕ, ◌+◌, ◌*◌, ◌/◌, ◌%◌, ◌<◌, ◌≤◌, List, [], ◌∷◌, ◌++◌, length, get_or, drop, sym, ap, ◌∙◌, ap₂, arith}
use Rattle.std.proofs.lemmas.List.{drop_more}
use Rattle.record.specs.Layout.{le2, le4, num2, num4}

-- each is a byte
abbrev pub Bytes : List ℕ → Type 0
Bytes bs = (i : ℕ) → get_or bs i 0 < 256

pub le2_of : (a b : ℕ) → a < 256 → b < 256 → le2 (a + b * 256) ≡ a ∷ b ∷ []
le2_of a b h k =
    let low : (a + b * 256) % 256 ≡ a = omega arith in
    let q : (a + b * 256) / 256 ≡ b = omega arith in
    let high : (a + b * 256) / 256 % 256 ≡ b = ap (λ (x : ℕ). x % 256) q ∙ omega arith in
    ap₂ (λ (x y : ℕ). x ∷ y ∷ []) low high

pub le4_of : (a b c d : ℕ) → a < 256 → b < 256 → c < 256 → d < 256 → le4 (a + b * 256 + c * 65536 + d * 16777216) ≡ a ∷ b ∷ c ∷ d ∷ []
le4_of a b c d h k l m =
    let v : ℕ = a + b * 256 + c * 65536 + d * 16777216 in
    let e0 : v % 256 ≡ a = omega arith in
    let q1 : v / 256 ≡ b + c * 256 + d * 65536 = omega arith in
    let e1 : v / 256 % 256 ≡ b = ap (λ (x : ℕ). x % 256) q1 ∙ omega arith in
    let q2 : v / 65536 ≡ c + d * 256 = omega arith in
    let e2 : v / 65536 % 256 ≡ c = ap (λ (x : ℕ). x % 256) q2 ∙ omega arith in
    let q3 : v / 16777216 ≡ d = omega arith in
    let e3 : v / 16777216 % 256 ≡ d = ap (λ (x : ℕ). x % 256) q3 ∙ omega arith in
    ap₂ (λ (x : ℕ) (xs : List ℕ). x ∷ xs) e0 (ap₂ (λ (x : ℕ) (xs : List ℕ). x ∷ xs) e1 (ap₂ (λ (x y : ℕ). x ∷ y ∷ []) e2 e3))

-- the bytes of the number at a place, and what stands behind it, are what stands there
pub le2_at : (bs : List ℕ) (i : ℕ) → Bytes bs → i + 2 ≤ length bs → le2 (num2 bs i) ++ drop (i + 2) bs ≡ drop i bs
le2_at bs i h l =
    let d0 = drop_more bs i 0 (omega arith) in
    let d1 = drop_more bs (i + 1) 0 (omega arith) in
    let e : i + 1 + 1 ≡ i + 2 = omega arith in
    ap (λ (xs : List ℕ). xs ++ drop (i + 2) bs) (le2_of _ _ (h i) (h (i + 1)))
    ∙ sym (d0 ∙ ap (λ (xs : List ℕ). get_or bs i 0 ∷ xs) (d1 ∙ ap (λ (k : ℕ). get_or bs (i + 1) 0 ∷ drop k bs) e))

pub le4_at : (bs : List ℕ) (i : ℕ) → Bytes bs → i + 4 ≤ length bs → le4 (num4 bs i) ++ drop (i + 4) bs ≡ drop i bs
le4_at bs i h l =
    let d0 = drop_more bs i 0 (omega arith) in
    let d1 = drop_more bs (i + 1) 0 (omega arith) in
    let d2 = drop_more bs (i + 2) 0 (omega arith) in
    let d3 = drop_more bs (i + 3) 0 (omega arith) in
    let e1 : i + 1 + 1 ≡ i + 2 = omega arith in
    let e2 : i + 2 + 1 ≡ i + 3 = omega arith in
    let e3 : i + 3 + 1 ≡ i + 4 = omega arith in
    let f : le4 (num4 bs i) ≡ get_or bs i 0 ∷ get_or bs (i + 1) 0 ∷ get_or bs (i + 2) 0 ∷ get_or bs (i + 3) 0 ∷ [] = le4_of _ _ _ _ (h i) (h (i + 1)) (h (i + 2)) (h (i + 3)) in
    ap (λ (xs : List ℕ). xs ++ drop (i + 4) bs) f
    ∙ sym (d0 ∙ ap (λ (xs : List ℕ). get_or bs i 0 ∷ xs) (d1 ∙ ap (λ (xs : List ℕ). get_or bs (i + 1) 0 ∷ xs) (ap (λ (k : ℕ). drop k bs) e1 ∙ d2
    ∙ ap (λ (xs : List ℕ). get_or bs (i + 2) 0 ∷ xs) (ap (λ (k : ℕ). drop k bs) e2 ∙ d3 ∙ ap (λ (k : ℕ). get_or bs (i + 3) 0 ∷ drop k bs) e3))))
