-- SecAnd's shares stand for the conjunction: what its loops have still to add.
use Rattle.std.proofs.Common.{◌≡◌, ℕ, zero, suc, ◌+◌, ◌<◌, ◌≤◌, List, [], ◌∷◌, ◌++◌, length, get_or, drop, set, sym, refl, ap, ◌∙◌, ap₂, suc-le-suc, arith, length-set, drop-cons}
use lib.Bits.{bit_and, bit_xor, xor_assoc, xor_self, xor_zero_r, and_zero_r}
use Rattle.shares.specs.Groups.{word_rule, word_of}
use Rattle.shares.specs.Lawful.{word_laws}
use Rattle.shares.specs.Refresh.{row, rows}
use Rattle.shares.specs.Conjoined.{products, crossed, crossed_all, conjoined}
use Rattle.shares.proofs.Boolean.{and_xor, xor_and, xor_left_comm, xor_twice}
use Rattle.shares.proofs.Folding.{drop_all}
use Rattle.shares.proofs.Pairs.{recombine-joined}

-- a share for each place
pub placed_products : (os xs ys : List ℕ) → length os ≡ length xs → length ys ≡ length xs
    → ((k : ℕ) → k < length xs → get_or os k 0 ≡ bit_and (get_or xs k 0) (get_or ys k 0)) → os ≡ products xs ys
placed_products [] [] ys e f h = refl
placed_products [] (x ∷ xs) ys e f h = absurd (omega arith)
placed_products (o ∷ os) [] ys e f h = absurd (omega arith)
placed_products (o ∷ os) (x ∷ xs) [] e f h = absurd (omega arith)
placed_products (o ∷ os) (x ∷ xs) (y ∷ ys) e f h =
    ap₂ ◌∷◌ (h 0 (omega arith)) (placed_products os xs ys (omega arith) (omega arith) (λ k l. h (suc k) (suc-le-suc l)))

pub length-products : (xs ys : List ℕ) → length ys ≡ length xs → length (products xs ys) ≡ length xs
length-products [] ys e = refl
length-products (x ∷ xs) [] e = absurd (omega arith)
length-products (x ∷ xs) (y ∷ ys) e = ap suc (length-products xs ys (omega arith))

pub length_crossed : (xs ys os : List ℕ) (i j r : ℕ) → length (crossed xs ys i j r os) ≡ length os
length_crossed xs ys os i j r = simp length-set

module _ (xs ys : List ℕ) (same : length ys ≡ length xs) where
  rest : List ℕ → ℕ → ℕ
  rest zs i = word_of (drop i zs)

  dot : ℕ → ℕ
  dot i = word_of (products (drop i xs) (drop i ys))

  -- the cross products of the pairs from share i on, and those of share i with share j and later ones
  left : ℕ → ℕ
  left i = bit_xor (bit_and (rest xs i) (rest ys i)) (dot i)

  cross : ℕ → ℕ → ℕ
  cross i j = bit_xor (bit_and (get_or xs i 0) (rest ys j)) (bit_and (rest xs j) (get_or ys i 0))

  Rows : List ℕ → ℕ → Type 0
  Rows os i = bit_xor (word_of os) (left i) ≡ bit_and (word_of xs) (word_of ys)

  Row : List ℕ → ℕ → ℕ → Type 0
  Row os i j = bit_xor (word_of os) (bit_xor (cross i j) (left (suc i))) ≡ bit_and (word_of xs) (word_of ys)

  rest-step : (zs : List ℕ) (i : ℕ) → i < length zs → rest zs i ≡ bit_xor (get_or zs i 0) (rest zs (suc i))
  unfolding rest
  rest-step zs i h = ap word_of (drop-cons zs i 0 h)

  dot-step : (i : ℕ) → i < length xs → dot i ≡ bit_xor (bit_and (get_or xs i 0) (get_or ys i 0)) (dot (suc i))
  unfolding dot
  dot-step i h = ap₂ (λ (u v : List ℕ). word_of (products u v)) (drop-cons xs i 0 h) (drop-cons ys i 0 (omega arith))

  rows_start : Rows (products xs ys) 0
  unfolding Rows left dot rest
  rows_start =
      let d = word_of (products xs ys) in
      let v = bit_and (word_of xs) (word_of ys) in
      xor_left_comm d v d ∙ ap (bit_xor v) (xor_self d) ∙ xor_zero_r v

  rows_end : (os : List ℕ) (i : ℕ) → length xs ≤ i → Rows os i → word_of os ≡ bit_and (word_of xs) (word_of ys)
  unfolding Rows left dot rest
  rows_end os i h e =
      sym (ap (λ (r : List ℕ). bit_xor (word_of os) (bit_xor (bit_and (word_of r) (word_of (drop i ys))) (word_of (products r (drop i ys))))) (drop_all xs i h)
      ∙ xor_zero_r (word_of os)) ∙ e

  left_step : (i : ℕ) → i < length xs → left i ≡ bit_xor (cross i (suc i)) (left (suc i))
  unfolding left cross
  left_step i h =
      let x = get_or xs i 0 in let y = get_or ys i 0 in
      let X = rest xs (suc i) in let Y = rest ys (suc i) in
      ap₂ bit_xor (ap₂ bit_and (rest-step xs i h) (rest-step ys i (omega arith)) ∙ expand x X y Y) (dot-step i h)
      ∙ regroup (bit_and x y) (bit_and x Y) (bit_and X y) (bit_and X Y) (dot (suc i))
    where
      expand : (x X y Y : ℕ) → bit_and (bit_xor x X) (bit_xor y Y) ≡ bit_xor (bit_xor (bit_and x y) (bit_and x Y)) (bit_xor (bit_and X y) (bit_and X Y))
      expand x X y Y = xor_and x X (bit_xor y Y) ∙ ap₂ bit_xor (and_xor x y Y) (and_xor X y Y)

      regroup : (a b c d e : ℕ) → bit_xor (bit_xor (bit_xor a b) (bit_xor c d)) (bit_xor a e) ≡ bit_xor (bit_xor b c) (bit_xor d e)
      regroup a b c d e =
          let k : bit_xor (bit_xor (bit_xor a b) (bit_xor c d)) (bit_xor a e) ≡ bit_xor a (bit_xor a (bit_xor b (bit_xor c (bit_xor d e)))) = simp (xor_assoc, xor_left_comm) in
          k ∙ xor_twice a (bit_xor b (bit_xor c (bit_xor d e))) ∙ sym (xor_assoc b c (bit_xor d e))

  row-start : (os : List ℕ) (i : ℕ) → i < length xs → Rows os i → Row os i (suc i)
  unfolding Rows Row
  row-start os i h e = sym (ap (bit_xor (word_of os)) (left_step i h)) ∙ e

  row-end : (os : List ℕ) (i j : ℕ) → length xs ≤ j → Row os i j → Rows os (suc i)
  unfolding Rows Row cross rest
  row-end os i j h e =
      ap (λ (a : ℕ). bit_xor (word_of os) (bit_xor a (left (suc i))))
      (sym (ap₂ (λ (p q : List ℕ). bit_xor (bit_and (get_or xs i 0) (word_of q)) (bit_and (word_of p) (get_or ys i 0))) (drop_all xs j h) (drop_all ys j (omega arith))
      ∙ ap (λ (a : ℕ). bit_xor a 0) (and_zero_r (get_or xs i 0))))
      ∙ e

  cross-step : (i j : ℕ) → j < length xs
      → cross i j ≡ bit_xor (bit_xor (bit_and (get_or xs i 0) (get_or ys j 0)) (bit_and (get_or xs j 0) (get_or ys i 0))) (cross i (suc j))
  unfolding cross
  cross-step i j h =
      let x = get_or xs i 0 in let y = get_or ys i 0 in
      let u = get_or xs j 0 in let v = get_or ys j 0 in
      let X = rest xs (suc j) in let Y = rest ys (suc j) in
      ap₂ (λ (p q : ℕ). bit_xor (bit_and x q) (bit_and p y)) (rest-step xs j h) (rest-step ys j (omega arith))
      ∙ ap₂ bit_xor (and_xor x v Y) (xor_and u X y)
      ∙ swap (bit_and x v) (bit_and x Y) (bit_and u y) (bit_and X y)
    where
      swap : (a b c d : ℕ) → bit_xor (bit_xor a b) (bit_xor c d) ≡ bit_xor (bit_xor a c) (bit_xor b d)
      swap a b c d = simp (xor_assoc, xor_left_comm)

  -- the mask falls out of a pair
  word-crossed : (os : List ℕ) (i j r : ℕ) → i < length os → j < length os
      → word_of (crossed xs ys i j r os) ≡ bit_xor (word_of os) (bit_xor (bit_and (get_or xs i 0) (get_or ys j 0)) (bit_and (get_or xs j 0) (get_or ys i 0)))
  word-crossed os i j r h k =
      let half : List ℕ = set os i (bit_xor (get_or os i 0) r) in
      let a : ℕ = bit_and (get_or xs i 0) (get_or ys j 0) in
      let b : ℕ = bit_and (get_or xs j 0) (get_or ys i 0) in
      let l : j < length half = omega (arith, length-set os i (bit_xor (get_or os i 0) r)) in
      recombine-joined word_rule word_laws half j (bit_xor (bit_xor r a) b) l
      ∙ ap (λ (v : ℕ). bit_xor v (bit_xor (bit_xor r a) b)) (recombine-joined word_rule word_laws os i r h)
      ∙ masks-out (word_of os) r a b
    where
      masks-out : (o r a b : ℕ) → bit_xor (bit_xor o r) (bit_xor (bit_xor r a) b) ≡ bit_xor o (bit_xor a b)
      masks-out o r a b = xor_assoc o r (bit_xor (bit_xor r a) b) ∙ ap (λ (v : ℕ). bit_xor o (bit_xor r v)) (xor_assoc r a b) ∙ ap (bit_xor o) (xor_twice r (bit_xor a b))

  row_step : (os : List ℕ) (i j r : ℕ) → i < length os → j < length os → j < length xs → Row os i j → Row (crossed xs ys i j r os) i (suc j)
  unfolding Row
  row_step os i j r h k l e =
      let a : ℕ = bit_xor (bit_and (get_or xs i 0) (get_or ys j 0)) (bit_and (get_or xs j 0) (get_or ys i 0)) in
      let c : ℕ = cross i (suc j) in
      let t : ℕ = left (suc i) in
      ap (λ (s : ℕ). bit_xor s (bit_xor c t)) (word-crossed os i j r h k)
      ∙ xor_assoc (word_of os) a (bit_xor c t)
      ∙ ap (bit_xor (word_of os)) (sym (xor_assoc a c t) ∙ ap (λ (s : ℕ). bit_xor s t) (sym (cross-step i j l)))
      ∙ e

  -- one row of pairs, then others that end with the value
  row-value : (i n j : ℕ) (qs : List (ℕ × ℕ)) → i < length xs → n + j ≡ length xs
      → ((ws os : List ℕ) → length os ≡ length xs → Rows os (suc i) → word_of (crossed_all xs ys qs ws os) ≡ bit_and (word_of xs) (word_of ys))
      → (ws os : List ℕ) → length os ≡ length xs → Row os i j → word_of (crossed_all xs ys (row i j n ++ qs) ws os) ≡ bit_and (word_of xs) (word_of ys)
  row-value i zero j qs h e next ws os l p = next ws os l (row-end os i j (omega arith) p)
  row-value i (suc n) j qs h e next ws os l p =
      row-value i n (suc j) qs h (omega arith) next (drop 1 ws) (crossed xs ys i j (get_or ws 0 0) os) (length_crossed xs ys os i j (get_or ws 0 0) ∙ l)
      (row_step os i j (get_or ws 0 0) (omega arith) (omega arith) (omega arith) p)

  rows-value : (n i : ℕ) → n + i ≡ length xs → (ws os : List ℕ) → length os ≡ length xs → Rows os i
      → word_of (crossed_all xs ys (rows i n) ws os) ≡ bit_and (word_of xs) (word_of ys)
  rows-value zero i e ws os l p = rows_end os i (omega arith) p
  rows-value (suc n) i e ws os l p =
      let h : i < length xs = omega arith in
      row-value i n (suc i) (rows (suc i) n) h (omega arith) (rows-value n (suc i) (omega arith)) ws os l (row-start os i h p)

  pub conjoined-value : (m : ℕ) (ws : List ℕ) → length xs ≡ m → word_of (conjoined m xs ys ws) ≡ bit_and (word_of xs) (word_of ys)
  conjoined-value m ws e = rows-value m 0 (omega arith) ws (products xs ys) (length-products xs ys same) rows_start
