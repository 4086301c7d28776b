-- What a reader answers.
use Rattle.std.specs.Prelude.{Ok, Err, Result}
use Rattle.script.specs.declared.unread.Unread.{Unread}
use Rattle.script.specs.declared.unread.Unread.TheVariants.{NotUnderstood, Memory}

-- what was read is as P says; where it was not understood, Q holds; want of memory may come at any time
abbrev pub Reads : {A : Type 0} → (A → Type 0) → Type 0 → Result A Unread → Type 0
Reads P Q (Ok x) = P x
Reads P Q (Err NotUnderstood) = Q
Reads P Q (Err Memory) = Unit {0}

-- the same where nothing is made, so that there is no want of memory
abbrev pub Judges : {A : Type 0} → (A → Type 0) → Type 0 → Result A Unread → Type 0
Judges P Q (Ok x) = P x
Judges P Q (Err NotUnderstood) = Q
Judges P Q (Err Memory) = ⊥

-- nothing is as P says
abbrev pub NoneIs : {A : Type 0} → (A → Type 0) → Type 0
NoneIs P = (x : _) → P x → ⊥

-- what was read is as P says, and it is not understood only where nothing is as P says
abbrev pub Finds : {A : Type 0} → (A → Type 0) → Result A Unread → Type 0
Finds P r = Reads P (NoneIs P) r

abbrev pub Decides : {A : Type 0} → (A → Type 0) → Result A Unread → Type 0
Decides P r = Judges P (NoneIs P) r
