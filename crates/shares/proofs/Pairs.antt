-- A mask and its inverse leave the recombined value as it is; how many pairs there are.
use Rattle.std.proofs.Common.{◌≡◌, ℕ, zero, suc, ◌+◌, ◌-◌, ◌*◌, ◌<◌, ◌≢◌, List, [], ◌∷◌, length, get_or, set, sym, refl, ap, ◌∙◌, mul_comm, mul-suc, arith, length-append, length-set, get_or-set_other}
use Rattle.shares.specs.Rule.{Rule, Laws, Within, recombine}
use Rattle.shares.specs.Refresh.{pairs, row, rows, masked}

module _ (u : Rule) (laws : Laws u) where
  -- r joined to one share is r joined to the value
  pub recombine-joined : (xs : List ℕ) (i r : ℕ) → i < length xs → recombine u (set xs i (u.op (get_or xs i 0) r)) ≡ u.op (recombine u xs) r
  recombine-joined [] i r h = omega arith
  recombine-joined (x ∷ xs) zero r h =
      laws.assoc x r (recombine u xs) ∙ ap (u.op x) (laws.comm r (recombine u xs)) ∙ sym (laws.assoc x (recombine u xs) r)
  recombine-joined (x ∷ xs) (suc i) r h =
      let l : i < length xs = omega arith in
      ap (u.op x) (recombine-joined xs i r l) ∙ sym (laws.assoc x (recombine u xs) r)

  pub recombine-in : (xs : List ℕ) → Within u xs → recombine u xs < u.order
  recombine-in [] w = laws.unit_in
  recombine-in (x ∷ xs) w = laws.closed x (recombine u xs) (w 0 (omega arith)) (recombine-in xs (λ k h. w (suc k) (omega arith)))

  pub set-within : (xs : List ℕ) (i y : ℕ) → Within u xs → y < u.order → Within u (set xs i y)
  set-within [] i y w h k l = w k l
  set-within (x ∷ xs) zero y w h zero l = h
  set-within (x ∷ xs) zero y w h (suc k) l = w (suc k) l
  set-within (x ∷ xs) (suc i) y w h zero l = w zero (omega arith)
  set-within (x ∷ xs) (suc i) y w h (suc k) l = set-within xs i y (λ n e. w (suc n) (omega arith)) h k (omega arith)

  pub masked-value : (xs : List ℕ) (i j r : ℕ) → i < j → j < length xs → r < u.order → Within u xs → recombine u (masked u i j r xs) ≡ recombine u xs
  masked-value xs i j r l h b w =
      let ne : j ≢ i = omega arith in
      let ys : List ℕ = set xs i (u.op (get_or xs i 0) r) in
      let at_j : get_or ys j 0 ≡ get_or xs j 0 = get_or-set_other xs i j (u.op (get_or xs i 0) r) 0 ne in
      let long : length ys ≡ length xs = length-set xs i (u.op (get_or xs i 0) r) in
      let h' : j < length ys = omega arith in
      let h₀ : i < length xs = omega arith in
      ap (λ v. recombine u (set ys j (u.op v (u.inverse r)))) (sym at_j)
      ∙ recombine-joined ys j (u.inverse r) h'
      ∙ ap (λ t. u.op t (u.inverse r)) (recombine-joined xs i r h₀)
      ∙ laws.assoc (recombine u xs) r (u.inverse r)
      ∙ ap (u.op (recombine u xs)) (laws.undoes r b)
      ∙ laws.neutral (recombine u xs) (recombine-in xs w)

  pub masked-within : (xs : List ℕ) (i j r : ℕ) → i < j → j < length xs → r < u.order → Within u xs → Within u (masked u i j r xs)
  masked-within xs i j r l h b w =
      set-within (set xs i (u.op (get_or xs i 0) r)) j (u.op (get_or xs j 0) (u.inverse r))
      (set-within xs i (u.op (get_or xs i 0) r) w (laws.closed (get_or xs i 0) r (w i (omega arith)) b))
      (laws.closed (get_or xs j 0) (u.inverse r) (w j h) (laws.inverse_in r b))

length_row : (i j n : ℕ) → length (row i j n) ≡ n
length_row i j zero = refl
length_row i j (suc n) = ap suc (length_row i (suc j) n)

square : (n : ℕ) → n * (n - 1) + n ≡ n * n
square zero = refl
square (suc k) = let e : suc k - 1 ≡ k = omega arith in ap (λ m. suc k * m + suc k) e ∙ sym (mul-suc (suc k) k)

twice_rows : (i n : ℕ) → 2 * length (rows i n) ≡ n * (n - 1)
twice_rows i zero = refl
twice_rows i (suc n) =
    let l = length-append (row i (suc i) n) (rows (suc i) n) in
    let r = length_row i (suc i) n in
    let h = twice_rows (suc i) n in
    let s = square n in
    let e : suc n - 1 ≡ n = omega arith in
    let t : suc n * n ≡ n * n + n = mul_comm (suc n) n ∙ mul-suc n n in
    let v : 2 * length (rows i (suc n)) ≡ suc n * n = omega arith in
    v ∙ ap (λ m. suc n * m) (sym e)

-- the list of pairs is as long as their number
pub length_rows : (i m : ℕ) → length (rows i m) ≡ pairs m
unfolding pairs
length_rows i m = let h = twice_rows i m in omega arith
