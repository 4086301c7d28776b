-- A load's tests, the secret key in shares, and the public key.
use Rattle.std.specs.Prelude.{◌≡◌, ℕ, ◌-◌, ◌*◌, ◌<◌, ◌≤◌, Bool, ◌&&◌, List, [], ◌∷◌, ◌++◌, map, length, take, drop, ℤ, Some, None, Ok, Err, Option, Result, ◌==◌, nat_le, nat_lt, slice_index, unsigned_abs}
use Rattle.params.specs.Params.{Params}
use Rattle.refusal.specs.declared.Area.TheVariants.{Public}
use Rattle.refusal.specs.declared.Refusal.{Refusal}
use Rattle.refusal.specs.declared.Refusal.TheVariants.{ShareCount, AreaSize, NotTernary}
use Rattle.refusal.specs.Residues.{residue_test}
use Rattle.refusal.specs.Tests.{unless, at_index, first_hit}
use Rattle.ring.specs.Ring.{Residues, residue, plus, product}
use Rattle.search.specs.First.{first_at}
use Rattle.shares.specs.Rule.{Rule, Within, masks, recombine}
use Rattle.shares.specs.Groups.{residue_rule}
use Rattle.polys.specs.Area.{shares_of, recombined}

-- an integer other than −1, 0 and 1
abbrev pub not_ternary : ℤ → Bool
not_ternary z = nat_lt 1 (unsigned_abs z)

-- the tests of a load
abbrev pub count_test : ℕ → Option Refusal
count_test m = unless (nat_le 1 m && nat_le m 8) ShareCount

abbrev pub sizes_test : Params → ℕ → List ℤ → List ℕ → List ℕ → Option Refusal
sizes_test s m secret public key = unless (length public == 2 * s.n && (length secret == 2 * s.n && length key == 2 * m * s.n)) AreaSize

abbrev pub a_test : Params → List ℕ → Option Refusal
a_test s public = residue_test Public s.p (take s.n public)

abbrev pub secret_test : List ℤ → Option Refusal
secret_test secret = at_index NotTernary (first_at not_ternary secret)

-- in their order
abbrev pub load_tests : Params → ℕ → List ℤ → List ℕ → List ℕ → List (Option Refusal)
load_tests s m secret public key = count_test m ∷ sizes_test s m secret public key ∷ a_test s public ∷ secret_test secret ∷ []

-- a share count from 1 to 8, areas of their sizes, and residues for a
pub record Loadable (s : Params) (m : ℕ) (secret : List ℤ) (public key : List ℕ) : Type 0 where
  pub some : 0 < m
  pub most : m ≤ 8
  pub public_sized : length public ≡ 2 * s.n
  pub secret_sized : length secret ≡ 2 * s.n
  pub key_sized : length key ≡ 2 * m * s.n
  pub residues : Residues s.p (take s.n public)

-- areas that pass the tests, or the first test that hit
abbrev pub TestsLoad : {A : Type 0} → Params → ℕ → List ℤ → List ℕ → List ℕ → Result A Refusal → Type 0
TestsLoad s m secret public key (Ok _) = (first_hit (load_tests s m secret public key) ≡ None) × Loadable s m secret public key
TestsLoad s m secret public key (Err e) = first_hit (load_tests s m secret public key) ≡ Some e

-- m shares of a value: the value less the sum of m − 1 masks, and then those masks
unfoldable pub split : Rule → ℕ → List ℕ → ℕ → List ℕ
split u m ws v = u.op v (u.inverse (recombine u (masks u (m - 1) ws))) ∷ masks u (m - 1) ws

-- the words that the masks of one coefficient take
unfoldable pub split_cost : Params → ℕ → ℕ
split_cost s m = (residue_rule s.p).cost * (m - 1)

-- the words that a load takes
abbrev pub load_cost : Params → ℕ → ℕ
load_cost s m = 2 * s.n * split_cost s m

-- these shares are the value's, masked with the words
pub record Splits (u : Rule) (m : ℕ) (ws : List ℕ) (v : ℕ) (xs : List ℕ) : Type 0 where
  pub is : xs ≡ split u m ws v
  pub within : Within u xs
  pub value : recombine u xs ≡ v

-- the secret's residues, s1 and then s2
abbrev pub residues_of : Params → List ℤ → List ℕ
residues_of s secret = map (residue s.p) secret

-- the key area holds the secret: each coefficient's shares, with the masks that its turn comes to
pub record Holds (s : Params) (m : ℕ) (secret : List ℤ) (ws key : List ℕ) : Type 0 where
  pub shares : (c : ℕ) → c < 2 * s.n → shares_of s.n m key c ≡ split (residue_rule s.p) m (drop (c * split_cost s m) ws) (slice_index (residues_of s secret) c)
  pub residues : Residues s.p key
  pub value : recombined s m key ≡ residues_of s secret

-- a, and then t = a·s1 + s2
abbrev pub public_key : Params → List ℤ → List ℕ → List ℕ
public_key s secret public =
    let a = take s.n public in
    let s1 = take s.n (residues_of s secret) in
    let s2 = drop s.n (residues_of s secret) in
    a ++ plus s.p (product s.p a s1) s2
