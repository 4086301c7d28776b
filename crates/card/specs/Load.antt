-- Load: a card, with its key in shares, or a refusal.
use Rattle.std.specs.Prelude.{◌≡◌, ℕ, ◌<◌, ◌≤◌, List, length, replicate, ℤ, Some, None, Ok, Err, Option, Result}
use Rattle.params.specs.Params.{Params}
use Rattle.refusal.specs.declared.Refusal.{Refusal}
use Rattle.refusal.specs.declared.Refusal.TheVariants.{MasksEnded}
use Rattle.words.specs.Flow.{Flow}
use Rattle.keys.specs.Charge.{taken}
use Rattle.keys.specs.Load.{Holds, load_cost, public_key}
use Rattle.card.specs.declared.state.Loaded.{Loaded}

-- a card: its shares, the counter 0, the words taken, the key area and the public area
pub record Made (s : Params) (m : ℕ) (secret : List ℤ) (l : Loaded) (public public' key' : List ℕ) (f : Flow) : Type 0 where
  pub enough : load_cost s m ≤ length f.words
  pub share_count : l.card.shares.count ≡ m
  pub counter : l.card.counter ≡ 0
  pub words_taken : l.masks ≡ load_cost s m
  pub holds : Holds s m secret f.words key'
  pub published : public' ≡ public_key s secret public

-- no card: the masks ended, the key area is zeros, and the public area is untouched
pub record Ended (s : Params) (m : ℕ) (e : Refusal) (public public' key key' : List ℕ) (f : Flow) : Type 0 where
  pub few : length f.words < load_cost s m
  pub why : e ≡ MasksEnded f.mark
  pub zeros : key' ≡ replicate (length key) 0
  pub untouched : public' ≡ public

-- how a load that passes its tests ends
abbrev pub EndsBy : Params → ℕ → List ℤ → Result Loaded Refusal → List ℕ → List ℕ → List ℕ → List ℕ → Flow → Type 0
EndsBy s m secret (Ok l) public public' key key' f = Made s m secret l public public' key' f
EndsBy s m secret (Err e) public public' key key' f = Ended s m e public public' key key' f

-- a load by its first test that hits: nothing changes; where none does, there is a card, or the masks end
abbrev pub LoadBy : Params → ℕ → List ℤ → Option Refusal → Result Loaded Refusal → List ℕ → List ℕ → List ℕ → List ℕ → Flow → Flow → Type 0
LoadBy s m secret (Some e) r public public' key key' f f' = (r ≡ Err e) × (public' ≡ public) × (key' ≡ key) × (f' ≡ f)
LoadBy s m secret None r public public' key key' f f' = EndsBy s m secret r public public' key key' f × (f' ≡ taken (load_cost s m) f)
