-- A commutative group on the numbers below an order, values shared in it, and masks made of a source's words.
use Rattle.std.specs.Prelude.{◌≡◌, ℕ, zero, suc, ◌<◌, List, [], ◌∷◌, length, drop, slice_index}

-- the group's operation, inverse and unit; and the mask that the first `cost` of a source's words make
pub record Rule : Type 0 where
  pub order : ℕ
  pub op : ℕ → ℕ → ℕ
  pub inverse : ℕ → ℕ
  pub unit : ℕ
  pub cost : ℕ
  pub mask : List ℕ → ℕ

-- the laws of a commutative group below the order
pub record Laws (u : Rule) : Type 0 where
  pub comm : (a b : ℕ) → u.op a b ≡ u.op b a
  pub assoc : (a b c : ℕ) → u.op (u.op a b) c ≡ u.op a (u.op b c)
  pub neutral : (a : ℕ) → a < u.order → u.op a u.unit ≡ a
  pub undoes : (a : ℕ) → a < u.order → u.op a (u.inverse a) ≡ u.unit
  pub closed : (a b : ℕ) → a < u.order → b < u.order → u.op a b < u.order
  pub unit_in : u.unit < u.order
  pub inverse_in : (a : ℕ) → a < u.order → u.inverse a < u.order

-- every share is below the order
abbrev pub Within : Rule → List ℕ → Type 0
Within u xs = (k : ℕ) → k < length xs → slice_index xs k < u.order

-- the value that shares stand for
abbrev pub recombine : Rule → List ℕ → ℕ
recombine u [] = u.unit
recombine u (x ∷ xs) = u.op x (recombine u xs)

-- r is the mask that these words make
abbrev pub Masks : Rule → List ℕ → ℕ → Type 0
Masks u ws r = (r < u.order) × (r ≡ u.mask ws)

-- the masks that words make, one after another
abbrev pub masks : Rule → ℕ → List ℕ → List ℕ
masks u zero ws = []
masks u (suc k) ws = u.mask ws ∷ masks u k (drop u.cost ws)
