-- The health check: what it lets through of the list below it.
use Rattle.std.specs.Prelude.{◌≡◌, ℕ, suc, ◌+◌, ◌^◌, ◌<◌, ◌≤◌, Bool, true, false, cond, ◌⊎◌, List, [], ◌∷◌, ◌++◌, length, take, replicate, ◌==◌, nat_lt}
use Rattle.std.proofs.Common.{arith}
use Rattle.words.specs.declared.Mark.{Mark}
use Rattle.words.specs.declared.Mark.TheVariants.{Unhealthy}
use Rattle.words.specs.declared.watch.Watch.{Watch}
use Rattle.words.specs.Flow.{Flow}

-- c equal words stand in a row
pub record Repeats (c : ℕ) (ws : List ℕ) : Type 0 where
  pub front : List ℕ
  pub word : ℕ
  pub back : List ℕ
  pub is : ws ≡ front ++ (replicate c word ++ back)

-- nothing is withheld
pub record Whole (below f : Flow) : Type 0 where
  pub words : f.words ≡ below.words
  pub mark : f.mark ≡ below.mark

-- some words are withheld, since one word more would make c equal ones in a row
pub record Withheld (c : ℕ) (below f : Flow) : Type 0 where
  pub more : length f.words < length below.words
  pub repeats : Repeats c (take (length f.words + 1) below.words)
  pub mark : f.mark ≡ Unhealthy

-- f is the longest front of below that has no c equal words in a row
pub record Steady (c : ℕ) (below f : Flow) : Type 0 where
  pub front : f.words ≡ take (length f.words) below.words
  pub steady : Repeats c f.words → ⊥
  pub longest : Whole below f ⊎ Withheld c below f
  pub origin : f.origin ≡ below.origin

-- how long a run of equal words w makes, after a run of r words l
abbrev pub run_with : ℕ → ℕ → ℕ → ℕ
run_with l r w = cond (w == l) (r + 1) 1

-- the end that the check makes
abbrev pub withheld : List (ℕ × ℕ) → Flow
withheld o = record { words = []; mark = Unhealthy; origin = o }

-- what passes the cutoff c of a list with mark m and origin o, after a run of r words l
abbrev pub checked : ℕ → ℕ → ℕ → List ℕ → Mark → List (ℕ × ℕ) → Flow
checked c l r [] m o = record { words = []; mark = m; origin = o }
checked c l r (w ∷ ws) m o =
    cond (nat_lt (run_with l r w) c)
    (let f = checked c w (run_with l r w) ws m o in record { words = w ∷ f.words; mark = f.mark; origin = f.origin })
    (withheld o)

-- what a check has still to give, of what is below it
abbrev pub health_flow : Watch → Flow → Flow
health_flow h f = cond h.failed (withheld f.origin) (checked h.cutoff h.last h.run f.words f.mark f.origin)

-- what the check notes of a word that it lets through; of one that it withholds, no more than that it did
abbrev pub Admits : Bool → ℕ → Watch → Watch → Type 0
Admits true w h h' = (run_with h.last h.run w < h.cutoff) × (h'.cutoff ≡ h.cutoff) × (h'.last ≡ w) × (h'.run ≡ run_with h.last h.run w) × (h'.failed ≡ h.failed)
Admits false w h h' = (h.cutoff ≤ run_with h.last h.run w) × (h'.cutoff ≡ h.cutoff) × (h'.last ≡ h.last) × (h'.run ≡ h.run) × (h'.failed ≡ true)

-- a check lets no more through than there is
checked_few : (c l r : ℕ) (ws : List ℕ) (m : Mark) (o : List (ℕ × ℕ)) → length (checked c l r ws m o).words ≤ length ws
checked_few c l r [] m o = omega arith
checked_few c l r (w ∷ ws) m o =
    elim (nat_lt (run_with l r w) c)
    as (λ b. length (cond b (let f = checked c w (run_with l r w) ws m o in record { words = w ∷ f.words; mark = f.mark; origin = f.origin }) (withheld o)).words ≤ suc (length ws))
    [ true ↦ (let h = checked_few c w (run_with l r w) ws m o in omega arith) | false ↦ omega arith ]

pub health_few : (h : Watch) (f : Flow) → length f.words ≤ 2 ^ 40 → length (health_flow h f).words ≤ 2 ^ 40
health_few h f few =
    elim h.failed
    as (λ b. length (cond b (withheld f.origin) (checked h.cutoff h.last h.run f.words f.mark f.origin)).words ≤ 2 ^ 40)
    [ true ↦ omega arith | false ↦ (let e = checked_few h.cutoff h.last h.run f.words f.mark f.origin in omega arith) ]
