-- The loops over coefficients, place by place, and the long product's.
use Rattle.std.proofs.Common.{◌≡◌, ℕ, zero, suc, ◌+◌, ◌-◌, ◌*◌, ◌%◌, ◌^◌, ◌<◌, ◌≤◌, List, [], ◌∷◌, length, get_or, take, drop, sym, refl, ap, ◌∙◌, subst, ap₂, inl, inr, mod-lt, arith}
use native.Mathlib.Nat.{add-mod-mod, mod-add-mod, zero-mod}
use Rattle.std.proofs.lemmas.Bool.{cases_lt}
use Rattle.std.proofs.lemmas.List.{ext_get_or, get_or-map, get_or-take, get_or-drop, length-map, length-take-le, length-drop, drop_more}
use Rattle.std.proofs.lemmas.Nat.{mul-lt}
use Rattle.ring.specs.Long.{Turned, dot}
use Rattle.ring.specs.Ring.{negate, Residues, zip_with, scale, last_of, shift_in, times_x, zeros, product}
use Rattle.ring.proofs.Polynomials.{length_zip, get_d_zip, length-times_x}
use Rattle.ring.proofs.Algebra.{product-times_x, length-product}

-- f of xs and ys is written over xs: the places below i hold it, and the others are as they were
abbrev pub Zipping : (ℕ → ℕ → ℕ) → List ℕ → List ℕ → List ℕ → ℕ → Type 0
Zipping f xs ys zs i = ((k : ℕ) → k < i → get_or zs k 0 ≡ f (get_or xs k 0) (get_or ys k 0)) × ((k : ℕ) → i ≤ k → get_or zs k 0 ≡ get_or xs k 0)

pub zipping_all : (f : ℕ → ℕ → ℕ) (xs ys zs : List ℕ) (i : ℕ) → Zipping f xs ys zs i → length zs ≤ i → length zs ≡ length xs → length xs ≡ length ys → zs ≡ zip_with f xs ys
zipping_all f xs ys zs i z h d e =
    ext_get_or 0 zs (zip_with f xs ys) (d ∙ e ∙ sym (length_zip f xs ys e))
    (λ k l. z.0 k (omega arith) ∙ sym (get_d_zip f xs ys k (omega arith) (omega arith)))

-- the last place
last-at : (x : ℕ) (xs : List ℕ) → last_of x xs ≡ get_or (x ∷ xs) (length xs) 0
last-at x [] = refl
last-at x (y ∷ ys) = last-at y ys

-- the places of x times a polynomial
times_x-first : (p : ℕ) (xs : List ℕ) → 0 < length xs → get_or (times_x p xs) 0 0 ≡ negate p (get_or xs (length xs - 1) 0)
times_x-first p [] h = absurd (omega arith)
times_x-first p (x ∷ xs) h =
    let e : suc (length xs) - 1 ≡ length xs = omega arith in
    ap (negate p) (last-at x xs ∙ ap (λ (t : ℕ). get_or (x ∷ xs) t 0) (sym e))

shifted-at : (c : ℕ) (xs : List ℕ) (k : ℕ) → suc k < length xs → get_or (shift_in c xs) (suc k) 0 ≡ get_or xs k 0
shifted-at c [] k h = absurd (omega arith)
shifted-at c (x ∷ []) k h = absurd (omega arith)
shifted-at c (x ∷ y ∷ ys) zero h = refl
shifted-at c (x ∷ y ∷ ys) (suc k) h = shifted-at x (y ∷ ys) k (omega arith)

zeros_all : (xs : List ℕ) (j : ℕ) → get_or (zeros xs) j 0 ≡ 0
zeros_all [] j = refl
zeros_all (x ∷ xs) zero = refl
zeros_all (x ∷ xs) (suc j) = zeros_all xs j

-- the words r have b turned
module _ (n p : ℕ) (b r : List ℕ) (turned : Turned n p b r) (long : length b ≡ n) where
  -- t is xⁱ · b: coefficient j stands i places behind place n − 1 − j of r
  abbrev pub Power : ℕ → List ℕ → Type 0
  Power i t = (length t ≡ n) × ((j : ℕ) → j < n → get_or t j 0 ≡ get_or r (n - 1 - j + i) 0)

  power-none : Power 0 b
  power-none = (
    long,
    λ j h.
        let same : j ≡ n - 1 - (n - 1 - j) = omega arith in
        let here : n - 1 - j ≡ n - 1 - j + 0 = omega arith in
        ap (λ (k : ℕ). get_or b k 0) same ∙ sym (turned (n - 1 - j) (omega arith)).0 ∙ ap (λ (k : ℕ). get_or r k 0) here,
  )

  -- one more factor x
  power-place : (i : ℕ) (t : List ℕ) → i < n → Power i t → (j : ℕ) → j < n → get_or (times_x p t) j 0 ≡ get_or r (n - 1 - j + (i + 1)) 0
  power-place i t less w zero h =
      let last : n - 1 - (n - 1) + i ≡ i = omega arith in
      let first : n + i ≡ n - 1 - 0 + (i + 1) = omega arith in
      times_x-first p t (omega (arith, w.0))
      ∙ ap (λ (m : ℕ). negate p (get_or t (m - 1) 0)) w.0
      ∙ ap (negate p) (w.1 (n - 1) (omega arith) ∙ ap (λ (k : ℕ). get_or r k 0) last ∙ (turned i less).0)
      ∙ sym (turned i less).1
      ∙ ap (λ (k : ℕ). get_or r k 0) first
  power-place i t less w (suc j) h =
      let next : n - 1 - j + i ≡ n - 1 - suc j + (i + 1) = omega arith in
      shifted-at _ t j (omega (arith, w.0)) ∙ w.1 j (omega arith) ∙ ap (λ (k : ℕ). get_or r k 0) next

  power-more : (i : ℕ) (t : List ℕ) → i < n → Power i t → Power (i + 1) (times_x p t)
  power-more i t less w = (length-times_x p t ∙ w.0, power-place i t less w)

  -- coefficient j of xs · t, by the words that the coefficients xs meet
  met-at : (xs ws t : List ℕ) (i j : ℕ) → j < n → i + length xs ≤ n → length xs ≤ length ws → Power i t → ((k : ℕ) → k < length xs → get_or ws k 0 ≡ get_or r (n - 1 - j + i + k) 0)
      → get_or (product p xs t) j 0 ≡ dot xs ws % p
  met-at [] ws t i j h room enough w at = zeros_all t j ∙ sym (zero-mod p)
  met-at (a ∷ xs) [] t i j h room enough w at = absurd (omega arith)
  met-at (a ∷ xs) (x ∷ ws) t i j h room enough w at =
      let more = power-more i t (omega arith) w in
      let here : n - 1 - j + i + 0 ≡ n - 1 - j + i = omega arith in
      let head : x ≡ get_or t j 0 = at 0 (omega arith) ∙ ap (λ (k : ℕ). get_or r k 0) here ∙ sym (w.1 j h) in
      let rest : get_or (product p xs (times_x p t)) j 0 ≡ dot xs ws % p =
      met-at xs ws (times_x p t) (i + 1) j h (omega arith) (omega arith) more
      (λ k l. let next : n - 1 - j + i + suc k ≡ n - 1 - j + (i + 1) + k = omega arith in at (suc k) (omega arith) ∙ ap (λ (m : ℕ). get_or r m 0) next) in
      let scaled : get_or (scale p a t) j 0 ≡ (a * x) % p = get_or-map (λ (v : ℕ). (a * v) % p) t j 0 0 (omega (arith, w.0)) ∙ ap (λ (v : ℕ). (a * v) % p) (sym head) in
      get_d_zip (λ (u v : ℕ). (u + v) % p) (scale p a t) (times_x p (product p xs t)) j
      (omega (arith, length-map t (λ (v : ℕ). (a * v) % p), w.0)) (omega (arith, length-times_x p (product p xs t), length-product p xs t, w.0))
      ∙ ap₂ (λ (u v : ℕ). (u + v) % p) scaled (ap (λ (ts : List ℕ). get_or ts j 0) (sym (product-times_x p xs t)) ∙ rest)
      ∙ add-mod-mod ((a * x) % p) (dot xs ws) p
      ∙ mod-add-mod (a * x) p (dot xs ws)

  -- so coefficient j of a · b is a's sum of products with the words from place n − 1 − j on
  pub coefficient-at : (a ws : List ℕ) (j : ℕ) → j < n → length a ≡ n → length ws ≡ n → ((k : ℕ) → k < n → get_or ws k 0 ≡ get_or r (n - 1 - j + k) 0) → get_or (product p a b) j 0 ≡ dot a ws % p
  coefficient-at a ws j h l m at =
      met-at a ws b 0 j h (omega arith) (omega arith) power-none
      (λ k q. let here : n - 1 - j + k ≡ n - 1 - j + 0 + k = omega arith in at k (omega arith) ∙ ap (λ (i : ℕ). get_or r i 0) here)

  -- these words, as a range of r
  pub met-long : (d j : ℕ) → d ≡ n → j < n → length r ≡ 2 * n → length (take (2 * d - 1 - j - (d - 1 - j)) (drop (d - 1 - j) r)) ≡ n
  met-long d j e h l = length-take-le (2 * d - 1 - j - (d - 1 - j)) (drop (d - 1 - j) r) (omega (arith, length-drop (d - 1 - j) r)) ∙ omega arith

  pub met-place : (d j k : ℕ) → d ≡ n → j < n → k < n → get_or (take (2 * d - 1 - j - (d - 1 - j)) (drop (d - 1 - j) r)) k 0 ≡ get_or r (n - 1 - j + k) 0
  met-place d j k e h l =
      get_or-take (2 * d - 1 - j - (d - 1 - j)) (drop (d - 1 - j) r) k 0 (omega arith)
      ∙ get_or-drop (d - 1 - j) r k 0
      ∙ ap (λ (m : ℕ). get_or r (m - 1 - j + k) 0) e

  -- and they are residues where b's are
  pub turned-residues : (k : ℕ) → 0 < p → Residues p b → k < 2 * n → get_or r k 0 < p
  turned-residues k some w h =
      elim (cases_lt k n) [
        | inl l ↦ subst (λ (v : ℕ). v < p) (sym (turned k l).0) (w (n - 1 - k) (omega arith))
        | inr l ↦
            let back : n + (k - n) ≡ k = omega arith in
            subst (λ (v : ℕ). v < p) (sym (ap (λ (m : ℕ). get_or r m 0) (sym back) ∙ (turned (k - n) (omega arith)).1)) (mod-lt _ some)
      ]

-- a product of two numbers of 24 bits
pub small_product : (k x : ℕ) → k < 2 ^ 24 → x < 2 ^ 24 → k * x < 2 ^ 48
small_product k x h l = mul-lt k x (2 ^ 24) (2 ^ 24) h l

-- one more product
pub dot-more : (i : ℕ) (xs ys : List ℕ) → i < length xs → i < length ys → dot (drop i xs) (drop i ys) ≡ get_or xs i 0 * get_or ys i 0 + dot (drop (i + 1) xs) (drop (i + 1) ys)
dot-more i xs ys h l = ap₂ dot (drop_more xs i 0 h) (drop_more ys i 0 l)
