-- A remask's tests, and new shares of the same key.
use Rattle.std.specs.Prelude.{◌≡◌, ℕ, ◌*◌, ◌<◌, List, [], ◌∷◌, length, drop, Some, None, Ok, Err, Option, Result, ◌==◌}
use Rattle.params.specs.Params.{Params}
use Rattle.refusal.specs.declared.Area.TheVariants.{Key}
use Rattle.refusal.specs.declared.Refusal.{Refusal}
use Rattle.refusal.specs.declared.Refusal.TheVariants.{AreaSize}
use Rattle.refusal.specs.Residues.{residue_test}
use Rattle.refusal.specs.Tests.{unless, first_hit}
use Rattle.shares.specs.Rule.{Within}
use Rattle.shares.specs.Groups.{residue_rule}
use Rattle.shares.specs.Refresh.{pairs, rows, refreshed}
use Rattle.words.specs.declared.Mark.{Mark}
use Rattle.words.specs.Flow.{Flow}
use Rattle.words.specs.Spending.{Spends}
use Rattle.polys.specs.Area.{shares_of, recombined}
use Rattle.keys.specs.Key.{KeyArea}

-- the tests of a key area
abbrev pub size_test : Params → ℕ → List ℕ → Option Refusal
size_test s m key = unless (length key == 2 * m * s.n) AreaSize

abbrev pub word_test : Params → List ℕ → Option Refusal
word_test s key = residue_test Key s.p key

-- in their order
abbrev pub key_tests : Params → ℕ → List ℕ → List (Option Refusal)
key_tests s m key = size_test s m key ∷ word_test s key ∷ []

-- a key area that passes them, or the first that hit
abbrev pub TestsKey : {A : Type 0} → Params → ℕ → List ℕ → Result A Refusal → Type 0
TestsKey s m key (Ok _) = (first_hit (key_tests s m key) ≡ None) × KeyArea s m key
TestsKey s m key (Err e) = first_hit (key_tests s m key) ≡ Some e

-- the words that the refresh of one coefficient takes
unfoldable pub refresh_cost : Params → ℕ → ℕ
refresh_cost s m = (residue_rule s.p).cost * pairs m

-- the words that a remask takes
abbrev pub remask_cost : Params → ℕ → ℕ
remask_cost s m = 2 * s.n * refresh_cost s m

-- the shares of each coefficient are refreshed with the words that its turn comes to, as far as there are any
abbrev pub Refreshes : Params → ℕ → List ℕ → List ℕ → List ℕ → Type 0
Refreshes s m ws key key' =
    (c : ℕ) → c < 2 * s.n → shares_of s.n m key' c ≡ refreshed (residue_rule s.p) (rows 0 m) (drop (c * refresh_cost s m) ws) (shares_of s.n m key c)

-- the coefficients' shares refreshed in turn: what it takes, what they are then, and that they stand for the same key
pub record Remasks {A : Type 0} (s : Params) (m : ℕ) (r : Result A Mark) (key key' : List ℕ) (f f' : Flow) : Type 0 where
  pub spends : Spends (remask_cost s m) r f f' (λ _. Unit {0})
  pub shares : Refreshes s m f.words key key'
  pub residues : Within (residue_rule s.p) key'
  pub same : recombined s m key' ≡ recombined s m key
