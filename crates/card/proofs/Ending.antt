-- How a load and a remask that passed their tests end.
use Rattle.std.proofs.Common.{◌≡◌, ℕ, ◌-◌, List, length, replicate, ℤ, None, Ok, Err, Option, Result, ap, ◌∙◌, subst}
use Rattle.params.specs.Params.{Params}
use Rattle.refusal.specs.declared.Refusal.{Refusal}
use Rattle.refusal.specs.declared.Refusal.TheVariants.{MasksEnded}
use Rattle.words.specs.declared.Mark.{Mark}
use Rattle.words.specs.Flow.{Flow}
use Rattle.words.specs.Spending.{Spent, Short, Spends}
use Rattle.keys.specs.Load.{load_cost, Holds, public_key}
use Rattle.keys.specs.Remask.{remask_cost, Remasks}
use Rattle.keys.proofs.Charges.{spent-taken, short-taken, spent-charged, short-charged, spent-count}
use Rattle.card.specs.declared.state.Loaded.{Loaded}
use Rattle.card.specs.Load.{LoadBy}
use Rattle.card.specs.Remask.{RemaskBy}

-- a load
module _ {A : Type 0} (s : Params) (m : ℕ) (secret : List ℤ) (public key : List ℕ) {public' key' : List ℕ} {f f' : Flow} {hit : Option Refusal} (none : hit ≡ None) (r : Result A Mark) where
  pub load-done : (x : A) (l : Loaded) → Spends (load_cost s m) r f f' (λ _. Holds s m secret f.words key') → r ≡ Ok x → l.card.shares.count ≡ m → l.card.counter ≡ 0 → l.masks ≡ length f.words - length f'.words
      → public' ≡ public_key s secret public → LoadBy s m secret hit (Ok l) public public' key key' f f' × Holds s m secret f.words key'
  load-done x l d e shares counter count t =
      let by = (subst (λ (o : Result A Mark). Spends (load_cost s m) o f f' (λ _. Holds s m secret f.words key')) e d).by in (
        rw none (
          record { enough = by.0.enough; share_count = shares; counter = counter; words_taken = spent-count count by.0; holds = by.1; published = t },
          spent-taken by.0,
        ),
        by.1,
      )

  pub load-ended : (mark : Mark) {filled : List ℕ} → Spends (load_cost s m) r f f' (λ _. Holds s m secret f.words filled) → r ≡ Err mark → key' ≡ replicate (length key) 0 → public' ≡ public → LoadBy s m secret hit (Err (MasksEnded mark)) public public' key key' f f'
  load-ended mark {filled = filled} d e zeros same =
      let short : Short (load_cost s m) mark f f' = (subst (λ (o : Result A Mark). Spends (load_cost s m) o f f' (λ _. Holds s m secret f.words filled)) e d).by in
      rw none (record { few = short.few; why = ap MasksEnded short.why; zeros = zeros; untouched = same }, short-taken short)

-- a remask
module _ {A : Type 0} (s : Params) (m : ℕ) {key key' : List ℕ} {f f' : Flow} {hit : Option Refusal} (none : hit ≡ None) (r : Result A Mark) (d : Remasks s m r key key' f f') where
  pub remask-done : (x : A) (count : ℕ) → r ≡ Ok x → count ≡ length f.words - length f'.words → RemaskBy s m hit (Ok count) key key' f f'
  remask-done x count e k =
      let spent : Spent (remask_cost s m) f f' = (subst (λ (o : Result A Mark). Remasks s m o key key' f f') e d).spends.by.0 in
      rw none (ap Ok (spent-count k spent) ∙ spent-charged (remask_cost s m) spent, d.shares, spent-taken spent)

  pub remask-ended : (mark : Mark) → r ≡ Err mark → RemaskBy s m hit (Err (MasksEnded mark)) key key' f f'
  remask-ended mark e =
      let short : Short (remask_cost s m) mark f f' = (subst (λ (o : Result A Mark). Remasks s m o key key' f f') e d).spends.by in
      rw none (short-charged (remask_cost s m) short, d.shares, short-taken short)
