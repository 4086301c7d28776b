-- What a constructor refuses.
use Rattle.std.specs.Prelude.{ℕ, ◌<◌, ◌⊎◌, Ok, Err, Result}
use Rattle.words.specs.declared.OutOfRange.{OutOfRange}

-- refused exactly where Bad holds; else P holds of what is made
abbrev pub Refuses : {A : Type 0} → Type 0 → Result A OutOfRange → (A → Type 0) → Type 0
Refuses Bad (Ok x) P = (Bad → ⊥) × P x
Refuses Bad (Err e) P = Bad

-- no cutoff of a health check
abbrev pub Unfit : ℕ → Type 0
Unfit c = (c < 2) ⊎ (64 < c)
