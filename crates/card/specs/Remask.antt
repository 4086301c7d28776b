-- Remask: how many words new shares of the same key took, or a refusal.
use Rattle.std.specs.Prelude.{◌≡◌, ℕ, List, Some, None, Err, Option, Result}
use Rattle.params.specs.Params.{Params}
use Rattle.refusal.specs.declared.Refusal.{Refusal}
use Rattle.words.specs.Flow.{Flow}
use Rattle.keys.specs.Charge.{taken, charged}
use Rattle.keys.specs.Remask.{Refreshes, remask_cost}

-- a remask by its first test that hits: nothing changes; where none does, the answer is the number of words taken, or the mark
abbrev pub RemaskBy : Params → ℕ → Option Refusal → Result ℕ Refusal → List ℕ → List ℕ → Flow → Flow → Type 0
RemaskBy s m (Some e) r key key' f f' = (r ≡ Err e) × (key' ≡ key) × (f' ≡ f)
RemaskBy s m None r key key' f f' = (r ≡ charged (remask_cost s m) f (remask_cost s m)) × Refreshes s m f.words key key' × (f' ≡ taken (remask_cost s m) f)
