-- The first test that hits, test by test.
use Rattle.std.proofs.Common.{◌≡◌, ℕ, List, [], ◌∷◌, Some, None, Option, refl, ap, arith}
use Rattle.refusal.specs.declared.Refusal.{Refusal}
use Rattle.refusal.specs.Tests.{at_index, first_hit}

pub hits : (t : Option Refusal) (ts : List (Option Refusal)) (e : Refusal) → t ≡ Some e → first_hit (t ∷ ts) ≡ Some e
hits t ts e h = ap (λ (o : Option Refusal). first_hit (o ∷ ts)) h

pub passes : (t : Option Refusal) (ts : List (Option Refusal)) → t ≡ None → first_hit (t ∷ ts) ≡ first_hit ts
passes t ts h = ap (λ (o : Option Refusal). first_hit (o ∷ ts)) h

-- what hits among the first two tests hits among more
pub hits_two : (t u : Option Refusal) (ts : List (Option Refusal)) (e : Refusal) → first_hit (t ∷ u ∷ []) ≡ Some e → first_hit (t ∷ u ∷ ts) ≡ Some e
hits_two None None ts e h = absurd (let z : ◌≡◌ {A = ℕ} 0 1 = cc in omega arith)
hits_two None (Some d) ts e h = h
hits_two (Some d) u ts e h = h

pub no_index : (e : ℕ → Refusal) (o : Option ℕ) → at_index e o ≡ None → o ≡ None
no_index e None h = refl
no_index e (Some i) h = absurd (let z : ◌≡◌ {A = ℕ} 0 1 = cc in omega arith)
