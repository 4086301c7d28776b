-- The product's laws, for all lengths and every p.
use Rattle.std.proofs.Common.{◌≡◌, ℕ, zero, suc, ◌+◌, ◌-◌, ◌*◌, ◌%◌, ◌<◌, List, [], ◌∷◌, ◌++◌, map, length, replicate, sym, refl, ap, ◌∙◌, subst, ap₂, add-zero, mul-zero, zero-add, mul-one, arith}
use native.Mathlib.Nat.{zero-mod, mod-mod}
use lib.ListN.{length-replicate}
use Rattle.std.proofs.lemmas.List.{append-nil, append_assoc, map-append, length-map, get_or-replicate}
use Rattle.ring.specs.Laws.{constant, iterate}
use Rattle.ring.specs.Ring.{negate, Residues, reduced, plus, scale, last_of, shift_in, times_x, zeros, product}
use Rattle.ring.proofs.Modular.{interchange, times-plus, plus_times, times-swap, negate_is}
use Rattle.ring.proofs.Polynomials.{cons, residues_mod, mod_residues, length-plus, length-shift_in, length-times_x, times_x-residues}

module _ (p : ℕ) where
  negate-plus : (a b : ℕ) → negate p ((a + b) % p) ≡ (negate p a + negate p b) % p
  negate-plus a b = negate_is p ((a + b) % p) ∙ times-plus p (p - 1) a b ∙ ap₂ (λ (s t : ℕ). (s + t) % p) (sym (negate_is p a)) (sym (negate_is p b))

  negate-times : (k a : ℕ) → negate p ((k * a) % p) ≡ (k * negate p a) % p
  negate-times k a = negate_is p ((k * a) % p) ∙ times-swap p (p - 1) k a ∙ ap (λ (t : ℕ). (k * t) % p) (sym (negate_is p a))

  pub plus-swap : (xs ys zs ws : List ℕ) → plus p (plus p xs ys) (plus p zs ws) ≡ plus p (plus p xs zs) (plus p ys ws)
  plus-swap [] ys zs ws = refl
  plus-swap (x ∷ xs) [] [] ws = refl
  plus-swap (x ∷ xs) [] (z ∷ zs) ws = refl
  plus-swap (x ∷ xs) (y ∷ ys) [] ws = refl
  plus-swap (x ∷ xs) (y ∷ ys) (z ∷ zs) [] = refl
  plus-swap (x ∷ xs) (y ∷ ys) (z ∷ zs) (w ∷ ws) = ap₂ cons (interchange p x y z w) (plus-swap xs ys zs ws)

  pub length-product : (a b : List ℕ) → length (product p a b) ≡ length b
  length-product [] b = length-map b (λ _. 0)
  length-product (a ∷ more) b =
      let t = length-times_x p (product p more b) ∙ length-product more b in
      length-plus p (scale p a b) (times_x p (product p more b)) (length-map b (λ x. (a * x) % p) ∙ sym t) ∙ t

  scale-plus : (k : ℕ) (xs ys : List ℕ) → scale p k (plus p xs ys) ≡ plus p (scale p k xs) (scale p k ys)
  scale-plus k [] ys = refl
  scale-plus k (x ∷ xs) [] = refl
  scale-plus k (x ∷ xs) (y ∷ ys) = ap₂ cons (times-plus p k x y) (scale-plus k xs ys)

  last-plus : (x y : ℕ) (xs ys : List ℕ) → length xs ≡ length ys → last_of ((x + y) % p) (plus p xs ys) ≡ (last_of x xs + last_of y ys) % p
  last-plus x y [] [] e = refl
  last-plus x y [] (v ∷ ys) e = absurd (omega arith)
  last-plus x y (u ∷ xs) [] e = absurd (omega arith)
  last-plus x y (u ∷ xs) (v ∷ ys) e = last-plus u v xs ys (omega arith)

  shift_in-plus : (x y : ℕ) (xs ys : List ℕ) → length xs ≡ length ys → shift_in ((x + y) % p) (plus p xs ys) ≡ plus p (shift_in x xs) (shift_in y ys)
  shift_in-plus x y [] [] e = refl
  shift_in-plus x y [] (v ∷ ys) e = absurd (omega arith)
  shift_in-plus x y (u ∷ xs) [] e = absurd (omega arith)
  shift_in-plus x y (u ∷ xs) (v ∷ ys) e = ap (λ (ts : List ℕ). (x + y) % p ∷ ts) (shift_in-plus u v xs ys (omega arith))

  pub times_x-plus : (xs ys : List ℕ) → length xs ≡ length ys → times_x p (plus p xs ys) ≡ plus p (times_x p xs) (times_x p ys)
  times_x-plus [] ys e = refl
  times_x-plus (x ∷ xs) [] e = refl
  times_x-plus (x ∷ xs) (y ∷ ys) e =
      let h : length xs ≡ length ys = omega arith in
      ap₂ cons (ap (negate p) (last-plus x y xs ys h) ∙ negate-plus (last_of x xs) (last_of y ys)) (shift_in-plus x y xs ys h)

  zeros_plus : (b c : List ℕ) → zeros (plus p b c) ≡ plus p (zeros b) (zeros c)
  zeros_plus [] c = refl
  zeros_plus (b ∷ bs) [] = refl
  zeros_plus (b ∷ bs) (c ∷ cs) = ap₂ cons (sym (zero-mod p)) (zeros_plus bs cs)

  pub product_plus : (a b c : List ℕ) → length b ≡ length c → product p a (plus p b c) ≡ plus p (product p a b) (product p a c)
  product_plus [] b c e = zeros_plus b c
  product_plus (a ∷ more) b c e =
      ap₂ (plus p) (scale-plus a b c) (ap (times_x p) (product_plus more b c e) ∙ times_x-plus (product p more b) (product p more c) (length-product more b ∙ e ∙ sym (length-product more c)))
      ∙ plus-swap (scale p a b) (scale p a c) (times_x p (product p more b)) (times_x p (product p more c))

  plus-zeros : (xs : List ℕ) → plus p (zeros xs) (zeros xs) ≡ zeros xs
  plus-zeros [] = refl
  plus-zeros (x ∷ xs) = ap₂ cons (zero-mod p) (plus-zeros xs)

  scale-sum : (k m : ℕ) (xs : List ℕ) → scale p ((k + m) % p) xs ≡ plus p (scale p k xs) (scale p m xs)
  scale-sum k m [] = refl
  scale-sum k m (x ∷ xs) = ap₂ cons (plus_times p k m x) (scale-sum k m xs)

  pub plus_product : (a b c : List ℕ) → length a ≡ length b → product p (plus p a b) c ≡ plus p (product p a c) (product p b c)
  plus_product [] [] c e = sym (plus-zeros c)
  plus_product [] (y ∷ ys) c e = absurd (omega arith)
  plus_product (x ∷ xs) [] c e = absurd (omega arith)
  plus_product (x ∷ xs) (y ∷ ys) c e =
      ap₂ (plus p) (scale-sum x y c) (ap (times_x p) (plus_product xs ys c (omega arith)) ∙ times_x-plus (product p xs c) (product p ys c) (length-product xs c ∙ sym (length-product ys c)))
      ∙ plus-swap (scale p x c) (scale p y c) (times_x p (product p xs c)) (times_x p (product p ys c))

  last-map : (f : ℕ → ℕ) (x : ℕ) (xs : List ℕ) → last_of (f x) (map f xs) ≡ f (last_of x xs)
  last-map f x [] = refl
  last-map f x (y ∷ ys) = last-map f y ys

  shift_in-map : (f : ℕ → ℕ) (x : ℕ) (xs : List ℕ) → shift_in (f x) (map f xs) ≡ map f (shift_in x xs)
  shift_in-map f x [] = refl
  shift_in-map f x (y ∷ ys) = ap (λ (ts : List ℕ). f x ∷ ts) (shift_in-map f y ys)

  pub times_x-scale : (k : ℕ) (xs : List ℕ) → times_x p (scale p k xs) ≡ scale p k (times_x p xs)
  times_x-scale k [] = refl
  times_x-scale k (x ∷ xs) =
      ap₂ cons (ap (negate p) (last-map (λ y. (k * y) % p) x xs) ∙ negate-times k (last_of x xs)) (shift_in-map (λ y. (k * y) % p) x xs)

  times_zero : (k : ℕ) → (k * 0) % p ≡ 0
  times_zero k = ap (λ (t : ℕ). t % p) (mul-zero k) ∙ zero-mod p

  negate_zero : negate p 0 ≡ 0
  negate_zero = negate_is p 0 ∙ times_zero (p - 1)

  zeros-times_x : (xs : List ℕ) → zeros (times_x p xs) ≡ times_x p (zeros xs)
  zeros-times_x [] = refl
  zeros-times_x (x ∷ xs) =
      ap₂ cons (sym (ap (negate p) (last-map (λ _. 0) x xs) ∙ negate_zero)) (sym (shift_in-map (λ _. 0) x xs))

  scale-zeros : (k : ℕ) (xs : List ℕ) → scale p k (zeros xs) ≡ zeros xs
  scale-zeros k [] = refl
  scale-zeros k (x ∷ xs) = ap₂ cons (times_zero k) (scale-zeros k xs)

  zeros-same : (xs ys : List ℕ) → length xs ≡ length ys → zeros xs ≡ zeros ys
  zeros-same [] [] e = refl
  zeros-same [] (y ∷ ys) e = absurd (omega arith)
  zeros-same (x ∷ xs) [] e = absurd (omega arith)
  zeros-same (x ∷ xs) (y ∷ ys) e = ap (λ (ts : List ℕ). 0 ∷ ts) (zeros-same xs ys (omega arith))

  scale-swap : (k m : ℕ) (xs : List ℕ) → scale p k (scale p m xs) ≡ scale p m (scale p k xs)
  scale-swap k m [] = refl
  scale-swap k m (x ∷ xs) = ap₂ cons (times-swap p k m x) (scale-swap k m xs)

  pub product-scale : (k : ℕ) (a b : List ℕ) → product p a (scale p k b) ≡ scale p k (product p a b)
  product-scale k [] b = zeros-same (scale p k b) b (length-map b (λ x. (k * x) % p)) ∙ sym (scale-zeros k b)
  product-scale k (a ∷ more) b =
      ap₂ (plus p) (scale-swap a k b) (ap (times_x p) (product-scale k more b) ∙ times_x-scale k (product p more b))
      ∙ sym (scale-plus k (scale p a b) (times_x p (product p more b)))

  pub product-times_x : (a b : List ℕ) → product p a (times_x p b) ≡ times_x p (product p a b)
  product-times_x [] b = zeros-times_x b
  product-times_x (a ∷ more) b =
      ap₂ (plus p) (sym (times_x-scale a b)) (ap (times_x p) (product-times_x more b))
      ∙ sym (times_x-plus (scale p a b) (times_x p (product p more b)) (length-map b (λ x. (a * x) % p) ∙ sym (length-times_x p (product p more b) ∙ length-product more b)))

  pub product_zeros : (a b : List ℕ) → product p a (zeros b) ≡ zeros b
  product_zeros [] b = zeros-same (zeros b) b (length-map b (λ _. 0))
  product_zeros (a ∷ more) b =
      ap₂ (plus p) (scale-zeros a b) (ap (times_x p) (product_zeros more b) ∙ sym (zeros-times_x b) ∙ zeros-same (times_x p b) b (length-times_x p b))
      ∙ plus-zeros b

  pub product-swap : (a b c : List ℕ) → product p a (product p b c) ≡ product p b (product p a c)
  product-swap [] b c = zeros-same (product p b c) c (length-product b c) ∙ sym (product_zeros b c)
  product-swap (a ∷ more) b c =
      ap₂ (plus p) (sym (product-scale a b c)) (ap (times_x p) (product-swap more b c) ∙ sym (product-times_x b (product p more c)))
      ∙ sym (product_plus b (scale p a c) (times_x p (product p more c)) (length-map c (λ x. (a * x) % p) ∙ sym (length-times_x p (product p more c) ∙ length-product more c)))

  abbrev raised : ℕ → List ℕ → List ℕ
  raised zero xs = xs
  raised (suc k) xs = 0 ∷ raised k xs

  plus-left : (x : ℕ) (ws : List ℕ) → plus p (scale p x (zeros ws)) (reduced p ws) ≡ reduced p ws
  plus-left x [] = refl
  plus-left x (w ∷ ws) =
      ap₂ cons (ap (λ (t : ℕ). (t + w % p) % p) (times_zero x) ∙ ap (λ (t : ℕ). t % p) (zero-add (w % p)) ∙ mod-mod w p) (plus-left x ws)

  add_at : (k x : ℕ) (ws : List ℕ) → plus p (scale p x (raised k (1 ∷ zeros ws))) (raised (suc k) (reduced p ws)) ≡ raised k (x % p ∷ reduced p ws)
  add_at zero x ws =
      ap₂ cons (ap (λ (t : ℕ). t % p) (add-zero ((x * 1) % p)) ∙ mod-mod (x * 1) p ∙ ap (λ (t : ℕ). t % p) (mul-one x)) (plus-left x ws)
  add_at (suc k) x ws =
      ap₂ cons (ap (λ (t : ℕ). (t + 0) % p) (times_zero x) ∙ zero-mod p) (add_at k x ws)

  last-zeros : (ys : List ℕ) → last_of 0 (zeros ys) ≡ 0
  last-zeros [] = refl
  last-zeros (y ∷ ys) = last-zeros ys

  shift_in-zeros : (ys : List ℕ) → shift_in 0 (zeros ys) ≡ zeros ys
  shift_in-zeros [] = refl
  shift_in-zeros (y ∷ ys) = ap (λ (ts : List ℕ). 0 ∷ ts) (shift_in-zeros ys)

  last-raised : (k : ℕ) (ys : List ℕ) → last_of 0 (raised k (1 ∷ 0 ∷ zeros ys)) ≡ 0
  last-raised zero ys = last-zeros ys
  last-raised (suc k) ys = last-raised k ys

  shift_in-raised : (k : ℕ) (ys : List ℕ) → shift_in 0 (raised k (1 ∷ 0 ∷ zeros ys)) ≡ raised (suc k) (1 ∷ zeros ys)
  shift_in-raised zero ys = ap (λ (ts : List ℕ). 0 ∷ 1 ∷ ts) (shift_in-zeros ys)
  shift_in-raised (suc k) ys = ap (λ (ts : List ℕ). 0 ∷ ts) (shift_in-raised k ys)

  times_x-raised : (k : ℕ) (ys : List ℕ) → times_x p (raised k (1 ∷ 0 ∷ zeros ys)) ≡ raised (suc k) (1 ∷ zeros ys)
  times_x-raised zero ys = ap₂ cons (ap (negate p) (last-zeros ys) ∙ negate_zero) (ap (λ (ts : List ℕ). 1 ∷ ts) (shift_in-zeros ys))
  times_x-raised (suc k) ys = ap₂ cons (ap (negate p) (last-raised k ys) ∙ negate_zero) (shift_in-raised k ys)

  zeros-raised : (k : ℕ) → zeros (raised k (1 ∷ [])) ≡ raised (suc k) []
  zeros-raised zero = refl
  zeros-raised (suc k) = ap (λ (ts : List ℕ). 0 ∷ ts) (zeros-raised k)

  unit-at : (k x : ℕ) (more : List ℕ) → product p (x ∷ more) (raised k (1 ∷ zeros more)) ≡ raised k (reduced p (x ∷ more))
  unit-at k x [] =
      ap (plus p (scale p x (raised k (1 ∷ [])))) (sym (zeros-times_x (raised k (1 ∷ []))) ∙ zeros-same (times_x p (raised k (1 ∷ []))) (raised k (1 ∷ [])) (length-times_x p (raised k (1 ∷ []))) ∙ zeros-raised k)
      ∙ add_at k x []
  unit-at k x (y ∷ ys) =
      ap (plus p (scale p x (raised k (1 ∷ 0 ∷ zeros ys)))) (sym (product-times_x (y ∷ ys) (raised k (1 ∷ 0 ∷ zeros ys))) ∙ ap (product p (y ∷ ys)) (times_x-raised k ys) ∙ unit-at (suc k) y ys)
      ∙ add_at k x (y ∷ ys)

  pub product-unit : (x : ℕ) (more : List ℕ) → product p (x ∷ more) (1 ∷ zeros more) ≡ reduced p (x ∷ more)
  product-unit x more = unit-at 0 x more

  comm-reduced : (a b : List ℕ) → length a ≡ length b → reduced p a ≡ a → reduced p b ≡ b → product p a b ≡ product p b a
  comm-reduced [] [] e ra rb = refl
  comm-reduced [] (y ∷ ys) e ra rb = absurd (omega arith)
  comm-reduced (x ∷ xs) [] e ra rb = absurd (omega arith)
  comm-reduced (x ∷ xs) (y ∷ ys) e ra rb =
      let z : zeros ys ≡ zeros xs = zeros-same ys xs (omega arith) in
      ap (product p (x ∷ xs)) (sym rb ∙ sym (product-unit y ys) ∙ ap (λ (zs : List ℕ). product p (y ∷ ys) (1 ∷ zs)) z)
      ∙ product-swap (x ∷ xs) (y ∷ ys) (1 ∷ zeros xs)
      ∙ ap (product p (y ∷ ys)) (product-unit x xs ∙ ra)

  reduced-plus : (xs ys : List ℕ) → reduced p (plus p xs ys) ≡ plus p xs ys
  reduced-plus [] ys = refl
  reduced-plus (x ∷ xs) [] = refl
  reduced-plus (x ∷ xs) (y ∷ ys) = ap₂ cons (mod-mod (x + y) p) (reduced-plus xs ys)

  reduced-zeros : (xs : List ℕ) → reduced p (zeros xs) ≡ zeros xs
  reduced-zeros [] = refl
  reduced-zeros (x ∷ xs) = ap₂ cons (zero-mod p) (reduced-zeros xs)

  pub reduced-product : (a b : List ℕ) → reduced p (product p a b) ≡ product p a b
  reduced-product [] b = reduced-zeros b
  reduced-product (a ∷ more) b = reduced-plus (scale p a b) (times_x p (product p more b))

  pub product-residues : (a b : List ℕ) → 0 < p → Residues p (product p a b)
  product-residues a b h = subst (Residues p) (reduced-product a b) (mod_residues p (product p a b) h)

  pub product_comm : (a b : List ℕ) → length a ≡ length b → Residues p a → Residues p b → product p a b ≡ product p b a
  product_comm a b e ra rb = comm-reduced a b e (residues_mod p a ra) (residues_mod p b rb)

  pub product_assoc : (a b c : List ℕ) → length a ≡ length b → length b ≡ length c → Residues p b → Residues p c → product p (product p a b) c ≡ product p a (product p b c)
  product_assoc a b c e f rb rc =
      comm-reduced (product p a b) c (length-product a b ∙ f) (reduced-product a b) (residues_mod p c rc)
      ∙ product-swap c a b
      ∙ ap (product p a) (product_comm c b (sym f) rc rb)

  zeros-replicate : (xs : List ℕ) → zeros xs ≡ replicate (length xs) 0
  zeros-replicate [] = refl
  zeros-replicate (x ∷ xs) = ap (cons 0) (zeros-replicate xs)

  pub product_one : (a : List ℕ) → Residues p a → product p a (constant (length a) 1) ≡ a
  product_one [] r = refl
  product_one (x ∷ xs) r =
      ap (λ (zs : List ℕ). product p (x ∷ xs) (1 ∷ zs)) (sym (zeros-replicate xs)) ∙ product-unit x xs ∙ residues_mod p (x ∷ xs) r

  length-constant : (n c : ℕ) → length (constant n c) ≡ n
  length-constant zero c = refl
  length-constant (suc k) c = ap suc (length-replicate k 0)

  constant-residues : (n c : ℕ) → c < p → Residues p (constant n c)
  constant-residues zero c h k l = absurd (omega arith)
  constant-residues (suc n) c h zero l = h
  constant-residues (suc n) c h (suc k) l = omega (arith, get_or-replicate {A = ℕ} n k 0 0 (omega (arith, length-replicate {A = ℕ} n 0)))

  pub product_x : (a : List ℕ) → 1 < p → Residues p a → product p (times_x p (constant (length a) 1)) a ≡ times_x p a
  product_x a h r =
      let u = constant (length a) 1 in
      product_comm (times_x p u) a (length-times_x p u ∙ length-constant (length a) 1) (times_x-residues p u (omega arith) (constant-residues (length a) 1 h)) r
      ∙ product-times_x a u
      ∙ ap (times_x p) (product_one a r)

  last-append : (f x : ℕ) (fs xs : List ℕ) → last_of f (fs ++ x ∷ xs) ≡ last_of x xs
  last-append f x [] xs = refl
  last-append f x (g ∷ fs) xs = last-append g x fs xs

  shift_in-append : (f x : ℕ) (fs xs : List ℕ) → shift_in f (fs ++ x ∷ xs) ≡ f ∷ (fs ++ shift_in x xs)
  shift_in-append f x [] xs = refl
  shift_in-append f x (g ∷ fs) xs = ap (cons f) (shift_in-append g x fs xs)

  times_x-append : (fs : List ℕ) (x : ℕ) (xs : List ℕ) → times_x p (fs ++ x ∷ xs) ≡ negate p (last_of x xs) ∷ (fs ++ shift_in x xs)
  times_x-append [] x xs = refl
  times_x-append (f ∷ fs) x xs = ap₂ cons (ap (negate p) (last-append f x fs xs)) (shift_in-append f x fs xs)

  shift_in-last : (x : ℕ) (xs : List ℕ) → shift_in x xs ++ (last_of x xs ∷ []) ≡ x ∷ xs
  shift_in-last x [] = refl
  shift_in-last x (y ∷ ys) = ap (cons x) (shift_in-last y ys)

  around : (k : ℕ) (fs xs : List ℕ) → length xs ≡ k → iterate k (times_x p) (fs ++ xs) ≡ map (negate p) xs ++ fs
  around zero fs [] e = append-nil fs
  around zero fs (x ∷ xs) e = absurd (omega arith)
  around (suc k) fs [] e = absurd (omega arith)
  around (suc k) fs (x ∷ xs) e =
      let l = last_of x xs in
      ap (iterate k (times_x p)) (times_x-append fs x xs)
      ∙ around k (negate p l ∷ fs) (shift_in x xs) (length-shift_in p x xs ∙ omega arith)
      ∙ sym (append_assoc (map (negate p) (shift_in x xs)) (negate p l ∷ []) fs)
      ∙ ap (λ (ys : List ℕ). ys ++ fs) (sym (map-append (negate p) (shift_in x xs) (l ∷ [])) ∙ ap (map (negate p)) (shift_in-last x xs))

  -- n times x goes once round
  pub x_to_n : (a : List ℕ) → iterate (length a) (times_x p) a ≡ map (negate p) a
  x_to_n a = around (length a) [] a refl ∙ append-nil (map (negate p) a)
