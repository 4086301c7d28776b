-- The values of a polynomial in shares are the sum of its rows, and a map that keeps sums goes through it.
use Rattle.std.proofs.Common.{◌≡◌, ℕ, zero, suc, ◌+◌, ◌*◌, ◌%◌, ◌<◌, ◌≤◌, List, ◌++◌, map, length, get_or, take, drop, replicate, sym, refl, ap, ◌∙◌, ap₂, arith}
use native.Mathlib.Nat.{zero-mod}
use lib.ListN.{length-replicate}
use Rattle.std.specs.List.{range_with_len as counting}
use Rattle.std.proofs.lemmas.Nat.{mul-le, div-mul-add, mod-mul-add}
use Rattle.std.proofs.lemmas.List.{ext_get_or, get_or-drop, get_or-replicate, length-drop, take-append-drop}
use Rattle.std.proofs.lemmas.List.FromFn.{length-map-range_with_len, get_or-map-range_with_len, take-map-range_with_len}
use Rattle.params.specs.Params.{Params}
use Rattle.shares.specs.Rule.{recombine}
use Rattle.shares.specs.Groups.{residue_rule}
use Rattle.ring.specs.Laws.{Proper}
use Rattle.ring.specs.Ring.{Residues, plus, product, zeros}
use Rattle.ring.proofs.Polynomials.{cons, length-plus, get_d_zip}
use Rattle.ring.proofs.Algebra.{plus-swap, product_plus, plus_product, product_zeros, product_comm}
use Rattle.polys.specs.Area.{place, shares_of, values, recombined, row}
use Rattle.polys.proofs.Rows.{Written, row_before, row_at, row-long}

module _ (p n : ℕ) where
  -- the sum of m of the rows f, from row a on
  abbrev pub total : (ℕ → List ℕ) → ℕ → ℕ → List ℕ
  total f a zero = replicate n 0
  total f a (suc m) = plus p (f a) (total f (a + 1) m)

  zeros-sum : (k : ℕ) → plus p (replicate k 0) (replicate k 0) ≡ replicate k 0
  zeros-sum zero = refl
  zeros-sum (suc k) = ap₂ cons (zero-mod p) (zeros-sum k)

  module _ (f : ℕ → List ℕ) (b : ℕ) (long : (k : ℕ) → k < b → length (f k) ≡ n) where
    pub total-long : (a m : ℕ) → a + m ≤ b → length (total f a m) ≡ n
    total-long a zero h = length-replicate n 0
    total-long a (suc m) h =
        let t = total-long (a + 1) m (omega arith) in
        length-plus p (f a) (total f (a + 1) m) (long a (omega arith) ∙ sym t) ∙ t

    -- what the shares of one coefficient stand for is a coefficient of the sum
    pub column : (c : ℕ) → c < n → (a m : ℕ) → a + m ≤ b → recombine (residue_rule p) (map (λ (k : ℕ). get_or (f k) c 0) (counting a m)) ≡ get_or (total f a m) c 0
    column c l a zero h = sym (get_or-replicate n c 0 0 l)
    column c l a (suc m) h =
        let t = total-long (a + 1) m (omega arith) in
        let e = long a (omega arith) in
        ap (λ (v : ℕ). (get_or (f a) c 0 + v) % p) (column c l (a + 1) m (omega arith))
        ∙ sym (get_d_zip (λ (x y : ℕ). (x + y) % p) (f a) (total f (a + 1) m) c (omega arith) (omega arith))

  total-same : (f g : ℕ → List ℕ) (b : ℕ) → ((k : ℕ) → k < b → f k ≡ g k) → (a m : ℕ) → a + m ≤ b → total f a m ≡ total g a m
  total-same f g b e a zero h = refl
  total-same f g b e a (suc m) h = ap₂ (plus p) (e a (omega arith)) (total-same f g b e (a + 1) m (omega arith))

  pub total-from : (f : ℕ → List ℕ) (d a m : ℕ) → total (λ (k : ℕ). f (d + k)) a m ≡ total f (d + a) m
  total-from f d a zero = refl
  total-from f d a (suc m) =
      let e : d + (a + 1) ≡ d + a + 1 = omega arith in
      ap (plus p (f (d + a))) (total-from f d (a + 1) m ∙ ap (λ (k : ℕ). total f k m) e)

  total-plus : (f g : ℕ → List ℕ) (a m : ℕ) → total (λ (k : ℕ). plus p (f k) (g k)) a m ≡ plus p (total f a m) (total g a m)
  total-plus f g a zero = sym (zeros-sum n)
  total-plus f g a (suc m) =
      ap (plus p (plus p (f a) (g a))) (total-plus f g (a + 1) m) ∙ plus-swap p (f a) (g a) (total f (a + 1) m) (total g (a + 1) m)

  -- a map of polynomials that keeps sums
  pub record Additive (L : List ℕ → List ℕ) : Type 0 where
    pub none : L (replicate n 0) ≡ replicate n 0
    pub sum : (xs ys : List ℕ) → length xs ≡ n → length ys ≡ n → L (plus p xs ys) ≡ plus p (L xs) (L ys)

  module _ (L : List ℕ → List ℕ) (additive : Additive L) (f : ℕ → List ℕ) (b : ℕ) (long : (k : ℕ) → k < b → length (f k) ≡ n) where
    total-image : (a m : ℕ) → a + m ≤ b → total (λ (k : ℕ). L (f k)) a m ≡ L (total f a m)
    total-image a zero h = sym additive.none
    total-image a (suc m) h =
        ap (plus p (L (f a))) (total-image (a + 1) m (omega arith)) ∙ sym (additive.sum (f a) (total f (a + 1) m) (long a (omega arith)) (total-long f b long (a + 1) m (omega arith)))

    -- rows that are each such an image plus another row
    pub total_of : (g r : ℕ → List ℕ) → ((k : ℕ) → k < b → r k ≡ plus p (L (f k)) (g k)) → (a m : ℕ) → a + m ≤ b → total r a m ≡ plus p (L (total f a m)) (total g a m)
    total_of g r e a m h =
        total-same r (λ (k : ℕ). plus p (L (f k)) (g k)) b e a m h
        ∙ total-plus (λ (k : ℕ). L (f k)) g a m
        ∙ ap (λ (xs : List ℕ). plus p xs (total g a m)) (total-image a m h)

  zeros-zeros : (k : ℕ) → zeros (replicate k 0) ≡ replicate k 0
  zeros-zeros zero = refl
  zeros-zeros (suc k) = ap (cons 0) (zeros-zeros k)

  zeros-residues : (k : ℕ) → 0 < p → Residues p (replicate k 0)
  zeros-residues k h c l = let long = length-replicate {A = ℕ} k 0 in let e = get_or-replicate {A = ℕ} k c 0 0 (omega arith) in omega arith

  times_none : (a : List ℕ) → product p a (replicate n 0) ≡ replicate n 0
  times_none a = ap (product p a) (sym (zeros-zeros n)) ∙ product_zeros p a (replicate n 0) ∙ zeros-zeros n

  -- the products by a polynomial, on the left and on the right
  pub left-additive : (a : List ℕ) → Additive (λ (x : List ℕ). product p a x)
  left-additive a = record { none = times_none a; sum = λ xs ys h l. product_plus p a xs ys (h ∙ sym l) }

  pub right-additive : (c : List ℕ) → 0 < p → length c ≡ n → Residues p c → Additive (λ (x : List ℕ). product p x c)
  right-additive c some long r = record {
    none = product_comm p (replicate n 0) c (length-replicate n 0 ∙ sym long) (zeros-residues n some) r ∙ times_none c;
    sum = λ xs ys h l. plus_product p xs ys c (h ∙ sym l);
  }

  -- polynomial h of an area in m shares
  module _ (m h : ℕ) (area : List ℕ) (inside : (h + 1) * m * n ≤ length area) where
    row_inside : (k : ℕ) → k < h * m + m → (k + 1) * n ≤ length area
    row_inside k l =
        let t = mul-le (k + 1) n ((h + 1) * m) n (omega arith) (omega arith) in
        omega arith

    place_at : (c i : ℕ) → c < n → place n m (h * n + c) i ≡ (h * m + i) * n + c
    unfolding place
    place_at c i l = ap₂ (λ (q r : ℕ). (q * m + i) * n + r) (div-mul-add h n c l) (mod-mul-add h n c l)

    column-of : (c : ℕ) → c < n → shares_of n m area (h * n + c) ≡ map (λ (k : ℕ). get_or (row n k area) c 0) (counting (h * m) m)
    unfolding shares_of
    column-of c l =
        let f : ℕ → ℕ = λ i. get_or area (place n m (h * n + c) i) 0 in
        let g : ℕ → ℕ = λ k. get_or (row n k area) c 0 in
        let long = length-map-range_with_len f 0 m in
        ext_get_or 0 (map f (counting 0 m)) (map g (counting (h * m) m)) (long ∙ sym (length-map-range_with_len g (h * m) m))
        (λ i b.
        get_or-map-range_with_len f 0 m i i 0 (omega arith) (omega arith)
        ∙ ap (λ (k : ℕ). get_or area k 0) (place_at c i l)
        ∙ sym (row_at n (h * m + i) area c l)
        ∙ sym (get_or-map-range_with_len g (h * m) m i (h * m + i) 0 (omega arith) refl))

    -- its values are the sum of its rows
    pub polynomial-sum : (start first : ℕ) → start ≡ h * n → first ≡ h * m → map (λ (c : ℕ). recombine (residue_rule p) (shares_of n m area c)) (counting start n) ≡ total (λ (k : ℕ). row n k area) first m
    polynomial-sum start first a b =
        let f : ℕ → List ℕ = λ k. row n k area in
        let v : ℕ → ℕ = λ c. recombine (residue_rule p) (shares_of n m area c) in
        let long : (k : ℕ) → k < h * m + m → length (f k) ≡ n = λ k l. row-long n k area (row_inside k l) in
        let t = total-long f (h * m + m) long (h * m) m (omega arith) in
        let sum : map v (counting (h * n) n) ≡ total f (h * m) m =
        ext_get_or 0 (map v (counting (h * n) n)) (total f (h * m) m) (length-map-range_with_len v (h * n) n ∙ sym t)
        (λ c l.
        let e = length-map-range_with_len v (h * n) n in
        let b : c < n = omega arith in
        get_or-map-range_with_len v (h * n) n c (h * n + c) 0 b refl
        ∙ ap (recombine (residue_rule p)) (column-of c b)
        ∙ column f (h * m + m) long c b (h * m) m (omega arith)) in
        ap (λ (k : ℕ). map v (counting k n)) a ∙ sum ∙ ap (λ (k : ℕ). total f k m) (sym b)

module _ (s : Params) (m : ℕ) (area : List ℕ) where
  abbrev p : ℕ
  p = s.p

  abbrev n : ℕ
  n = s.n

  abbrev f : ℕ → List ℕ
  f k = row s.n k area

  abbrev v : ℕ → ℕ
  v c = recombine (residue_rule s.p) (shares_of s.n m area c)

  -- the first polynomial
  pub values-sum : m * n ≤ length area → values s m n area ≡ total p n f 0 m
  unfolding values
  values-sum h = polynomial-sum p n m 0 area (omega arith) 0 0 (omega arith) (omega arith)

  module _ (inside : 2 * m * n ≤ length area) where
    pub front-sum : take n (recombined s m area) ≡ total p n f 0 m
    unfolding recombined values
    front-sum = take-map-range_with_len v 0 (2 * n) n (omega arith) ∙ values-sum (omega arith)

    -- the second
    pub back_sum : drop n (recombined s m area) ≡ total p n f m m
    unfolding recombined values
    back_sum =
        let long = length-map-range_with_len v 0 (2 * n) in
        let gone = length-drop n (map v (counting 0 (2 * n))) in
        ext_get_or 0 (drop n (map v (counting 0 (2 * n)))) (map v (counting n n)) (let e = length-map-range_with_len v n n in omega arith)
        (λ c l. get_or-drop n (map v (counting 0 (2 * n))) c 0 ∙ get_or-map-range_with_len v 0 (2 * n) (n + c) (n + c) 0 (omega arith) (omega arith) ∙ sym (get_or-map-range_with_len v n n c (n + c) 0 (omega arith) refl))
        ∙ polynomial-sum p n m 1 area inside n m (omega arith) (omega arith)

-- row k of the shares of a commitment, for the shares of y1 and y2 in the area y
abbrev pub commit_row : Params → ℕ → List ℕ → List ℕ → ℕ → List ℕ
commit_row s m a y k = plus s.p (product s.p a (row s.n k y)) (row s.n (m + k) y)

-- row k of the shares of a response
abbrev pub respond_row : Params → List ℕ → List ℕ → List ℕ → ℕ → List ℕ
respond_row s key c y k = plus s.p (product s.p (row s.n k key) c) (row s.n k y)

-- each row of r is a times that of y1, and that of y2
pub commit_value : (s : Params) (m : ℕ) (a y r : List ℕ) → length r ≡ m * s.n → length y ≡ 2 * m * s.n
    → Written s.n (commit_row s m a y) m r
    → values s m s.n r ≡ plus s.p (product s.p a (take s.n (recombined s m y))) (drop s.n (recombined s m y))
commit_value s m a y r lr ly w =
    let p = s.p in
    let n = s.n in
    let f : ℕ → List ℕ = λ k. row n k y in
    let long : (k : ℕ) → k < m → length (f k) ≡ n = λ k l. row-long n k y (let b = row_before n k (2 * m) (omega arith) in omega arith) in
    let e : m + 0 ≡ m = omega arith in
    values-sum s m r (omega arith)
    ∙ total_of p n (λ (x : List ℕ). product p a x) (left-additive p n a) f m long (λ (k : ℕ). row n (m + k) y) (λ (k : ℕ). row n k r) w 0 m (omega arith)
    ∙ ap₂ (λ (x z : List ℕ). plus p (product p a x) z) (sym (front-sum s m y (omega arith))) (total-from p n f m 0 m ∙ ap (λ (k : ℕ). total p n f k m) e ∙ sym (back_sum s m y (omega arith)))

-- each row of z is that of the key times c, and that of y
pub respond_value : (s : Params) (m : ℕ) (key y c z : List ℕ) → 0 < s.p → length key ≡ 2 * m * s.n → length y ≡ 2 * m * s.n → length z ≡ 2 * m * s.n → Proper s.n s.p c
    → Written s.n (respond_row s key c y) (2 * m) z
    → recombined s m z ≡ plus s.p (product s.p (take s.n (recombined s m key)) c) (take s.n (recombined s m y)) ++ plus s.p (product s.p (drop s.n (recombined s m key)) c) (drop s.n (recombined s m y))
respond_value s m key y c z some lk ly lz proper w =
    let p = s.p in
    let n = s.n in
    let f : ℕ → List ℕ = λ k. row n k key in
    let g : ℕ → List ℕ = λ k. row n k y in
    let long : (k : ℕ) → k < 2 * m → length (f k) ≡ n = λ k l. row-long n k key (let b = row_before n k (2 * m) l in omega arith) in
    let sum : (a : ℕ) → a + m ≤ 2 * m → total p n (λ (k : ℕ). row n k z) a m ≡ plus p (product p (total p n f a m) c) (total p n g a m) =
    λ a h. total_of p n (λ (x : List ℕ). product p x c) (right-additive p n c some proper.0 proper.1) f (2 * m) long g (λ (k : ℕ). row n k z) w a m h in
    let both : List ℕ → List ℕ → List ℕ = λ x v. plus p (product p x c) v in
    sym (take-append-drop n (recombined s m z))
    ∙ ap₂ (λ (x v : List ℕ). x ++ v)
    (front-sum s m z (omega arith) ∙ sum 0 (omega arith) ∙ ap₂ both (sym (front-sum s m key (omega arith))) (sym (front-sum s m y (omega arith))))
    (back_sum s m z (omega arith) ∙ sum m (omega arith) ∙ ap₂ both (sym (back_sum s m key (omega arith))) (sym (back_sum s m y (omega arith))))
