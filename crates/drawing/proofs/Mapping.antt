-- What `map_err` left of a result.
use Rattle.std.proofs.Common.{◌≡◌, Ok, Err, Result, refl, subst}
use Rattle.std.proofs.lemmas.Result.{err_from_is_err_and}
use Rattle.std.specs.Result.{MatchResult, IsErrAnd}

module _ {T E D : Type 0} where
  pub kept_ok : (r : Result T E) {r' : Result T D} (P : E → D → Type 0) {x : T} → MatchResult r (λ x. r' ≡ Ok x) (λ e. IsErrAnd r' (P e)) → r' ≡ Ok x → r ≡ Ok x
  kept_ok (Ok y) P h is = cc
  kept_ok (Err y) {r' = r'} P h is = let e = (err_from_is_err_and r' h).1 in absurd cc

  pub mapped_err : (r : Result T E) {r' : Result T D} (P : E → D → Type 0) {d : D} → MatchResult r (λ x. r' ≡ Ok x) (λ e. IsErrAnd r' (P e)) → r' ≡ Err d → (e : E) × (r ≡ Err e) × P e d
  mapped_err (Ok y) P h is = absurd cc
  mapped_err (Err y) {r' = r'} P {d = d} h is =
      let q = err_from_is_err_and r' h in
      let e = q.1 in
      let same : q.0 ≡ d = cc in
      (y, refl, subst (P y) same q.2)
