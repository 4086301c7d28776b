-- Residues modulo p, and polynomials over them modulo xⁿ + 1. A polynomial is the list of its n coefficients, the constant one first.
use Rattle.std.specs.Prelude.{ℕ, suc, ◌+◌, ◌-◌, ◌*◌, ◌/◌, ◌%◌, ◌<◌, cond, List, [], ◌∷◌, map, length, ℤ, pos, negsuc, ◌-ℤ◌, nat_le, slice_index}

-- −x
abbrev pub negate : ℕ → ℕ → ℕ
negate p x = (p - x % p) % p

-- the residue of an integer
abbrev pub residue : ℕ → ℤ → ℕ
residue p (pos v) = v % p
residue p (negsuc v) = negate p (suc v)

-- the integer nearest 0 whose residue is v
abbrev pub centre : ℕ → ℕ → ℤ
centre p v = cond (nat_le v ((p - 1) / 2)) (pos v) (pos v -ℤ pos p)

-- each coefficient is a residue
abbrev pub Residues : ℕ → List ℕ → Type 0
Residues p xs = (k : ℕ) → k < length xs → slice_index xs k < p

-- each coefficient modulo p
abbrev pub reduced : ℕ → List ℕ → List ℕ
reduced p xs = map (λ x. x % p) xs

-- f of the two coefficients at each place
abbrev pub zip_with : (ℕ → ℕ → ℕ) → List ℕ → List ℕ → List ℕ
zip_with f [] ys = []
zip_with f (x ∷ xs) [] = []
zip_with f (x ∷ xs) (y ∷ ys) = f x y ∷ zip_with f xs ys

-- the sum
abbrev pub plus : ℕ → List ℕ → List ℕ → List ℕ
plus p xs ys = zip_with (λ x y. (x + y) % p) xs ys

-- the difference
abbrev pub minus : ℕ → List ℕ → List ℕ → List ℕ
minus p xs ys = zip_with (λ x y. (x + negate p y) % p) xs ys

-- k times a polynomial
abbrev pub scale : ℕ → ℕ → List ℕ → List ℕ
scale p k xs = map (λ x. (k * x) % p) xs

-- the last coefficient, d where there is none
abbrev pub last_of : ℕ → List ℕ → ℕ
last_of d [] = d
last_of d (x ∷ xs) = last_of x xs

-- each coefficient one place up: c comes in at the bottom, and the last goes out
abbrev pub shift_in : ℕ → List ℕ → List ℕ
shift_in c [] = []
shift_in c (x ∷ xs) = c ∷ shift_in x xs

-- x times a polynomial: each coefficient goes up one place, and the last comes round negated
abbrev pub times_x : ℕ → List ℕ → List ℕ
times_x p xs = shift_in (negate p (last_of 0 xs)) xs

-- 0, with as many coefficients as xs
abbrev pub zeros : List ℕ → List ℕ
zeros xs = map (λ _. 0) xs

-- the product modulo xⁿ + 1, by Horner's rule: (a + x · more) · b = a · b + x · (more · b)
abbrev pub product : ℕ → List ℕ → List ℕ → List ℕ
product p [] b = zeros b
product p (a ∷ more) b = plus p (scale p a b) (times_x p (product p more b))
