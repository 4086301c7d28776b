-- Tests in a row: which hits first, and what it means that none does.
use Rattle.std.proofs.Common.{◌≡◌, ℕ, Bool, true, false, List, [], ◌∷◌, ◌++◌, Some, None, Option, refl, ap, ◌∙◌, arith}
use Rattle.refusal.specs.declared.Refusal.{Refusal}
use Rattle.refusal.specs.Tests.{unless, first_hit}

some_none : {A B : Type 0} (e : A) → ◌≡◌ {A = Option A} (Some e) None → B
some_none e h = absurd (let z : ◌≡◌ {A = ℕ} 0 1 = cc in omega arith)

pub hit_first : (ts us : List (Option Refusal)) (e : Refusal) → first_hit ts ≡ Some e → first_hit (ts ++ us) ≡ Some e
hit_first [] us e h = absurd (let z : ◌≡◌ {A = ℕ} 0 1 = cc in omega arith)
hit_first (None ∷ ts) us e h = hit_first ts us e h
hit_first (Some d ∷ ts) us e h = h

pub hit_later : (ts us : List (Option Refusal)) → first_hit ts ≡ None → first_hit (ts ++ us) ≡ first_hit us
hit_later [] us h = refl
hit_later (None ∷ ts) us h = hit_later ts us h
hit_later (Some d ∷ ts) us h = some_none d h

pub none_first : (t : Option Refusal) (ts : List (Option Refusal)) → first_hit (t ∷ ts) ≡ None → t ≡ None
none_first None ts h = refl
none_first (Some e) ts h = h

pub none_later : (t : Option Refusal) (ts : List (Option Refusal)) → first_hit (t ∷ ts) ≡ None → first_hit ts ≡ None
none_later None ts h = h
none_later (Some e) ts h = some_none e h

pub both_pass : (t : Option Refusal) (ts : List (Option Refusal)) → t ≡ None → first_hit ts ≡ None → first_hit (t ∷ ts) ≡ None
both_pass t ts e h = ap (λ (o : Option Refusal). first_hit (o ∷ ts)) e ∙ h

pub passed_true : (b : Bool) (e : Refusal) → unless b e ≡ None → b ≡ true
passed_true true e h = refl
passed_true false e h = some_none e h

pub true_passes : (b : Bool) (e : Refusal) → b ≡ true → unless b e ≡ None
true_passes b e h = ap (λ (t : Bool). unless t e) h
