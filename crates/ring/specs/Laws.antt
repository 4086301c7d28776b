-- What the definitions come to: a commutative ring in which xⁿ = −1, and residues that stand for the integers nearest 0.
use Rattle.std.specs.Prelude.{◌≡◌, ℕ, zero, suc, ◌-◌, ◌/◌, ◌<◌, ◌≤◌, List, [], ◌∷◌, map, length, replicate, ℤ, unsigned_abs}
use Rattle.ring.specs.Ring.{negate, residue, centre, Residues, plus, minus, times_x, product}

-- n coefficients, each a residue modulo p
abbrev pub Proper : ℕ → ℕ → List ℕ → Type 0
Proper n p xs = (length xs ≡ n) × Residues p xs

-- a polynomial, by its coefficients
pub record Polynomial (n p : ℕ) : Type 0 where
  pub coeffs : List ℕ
  pub proper : Proper n p coeffs

-- the constant polynomial c
abbrev pub constant : ℕ → ℕ → List ℕ
constant zero c = []
constant (suc k) c = c ∷ replicate k 0

-- f applied k times
abbrev pub iterate : ℕ → (List ℕ → List ℕ) → List ℕ → List ℕ
iterate zero f a = a
iterate (suc k) f a = iterate k f (f a)

-- polynomials of n residues modulo p are a commutative ring with an element x = times-x 1, and xⁿ = −1
pub record CommutativeRing (n p : ℕ) : Type 0 where
  pub plus_closed : (a b : Polynomial n p) → Proper n p (plus p a.coeffs b.coeffs)
  pub plus_comm : (a b : Polynomial n p) → plus p a.coeffs b.coeffs ≡ plus p b.coeffs a.coeffs
  pub plus_assoc : (a b c : Polynomial n p) → plus p (plus p a.coeffs b.coeffs) c.coeffs ≡ plus p a.coeffs (plus p b.coeffs c.coeffs)
  pub plus_zero : (a : Polynomial n p) → plus p a.coeffs (constant n 0) ≡ a.coeffs
  pub minus_closed : (a b : Polynomial n p) → Proper n p (minus p a.coeffs b.coeffs)
  pub minus_plus : (a b : Polynomial n p) → plus p (minus p a.coeffs b.coeffs) b.coeffs ≡ a.coeffs
  pub product_closed : (a b : Polynomial n p) → Proper n p (product p a.coeffs b.coeffs)
  pub product_comm : (a b : Polynomial n p) → product p a.coeffs b.coeffs ≡ product p b.coeffs a.coeffs
  pub product_assoc : (a b c : Polynomial n p) → product p (product p a.coeffs b.coeffs) c.coeffs ≡ product p a.coeffs (product p b.coeffs c.coeffs)
  pub product_one : (a : Polynomial n p) → product p a.coeffs (constant n 1) ≡ a.coeffs
  pub product_plus : (a b c : Polynomial n p) → product p a.coeffs (plus p b.coeffs c.coeffs) ≡ plus p (product p a.coeffs b.coeffs) (product p a.coeffs c.coeffs)
  pub plus_product : (a b c : Polynomial n p) → product p (plus p a.coeffs b.coeffs) c.coeffs ≡ plus p (product p a.coeffs c.coeffs) (product p b.coeffs c.coeffs)
  pub product_x : (a : Polynomial n p) → product p (times_x p (constant n 1)) a.coeffs ≡ times_x p a.coeffs
  pub x_to_n : (a : Polynomial n p) → iterate n (times_x p) a.coeffs ≡ map (negate p) a.coeffs

-- so it is for every n and p
abbrev pub RingLaws : Type 0
RingLaws = (n p : ℕ) → 0 < n → 1 < p → CommutativeRing n p

-- centring and taking the residue undo each other
pub record Centring (p : ℕ) : Type 0 where
  pub residue_centre : (v : ℕ) → v < p → residue p (centre p v) ≡ v
  pub centre_residue : (z : ℤ) → unsigned_abs z ≤ (p - 1) / 2 → centre p (residue p z) ≡ z

-- so it is for every p
abbrev pub CentringLaws : Type 0
CentringLaws = (p : ℕ) → 0 < p → Centring p
