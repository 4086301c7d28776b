-- A till's last counter stands for all that it accepted.
use Rattle.std.proofs.Common.{◌≡◌, ℕ, ◌<◌, true, List, [], ◌∷◌, ◌++◌, Some, None, Ok, Err, Option, Result, refl, arith}
use Rattle.std.specs.List.{AllByRecursion}
use Rattle.std.proofs.lemmas.Bool.{ltb-true, lt-ltb}
use Rattle.params.specs.Params.{Params, Sound}
use Rattle.refusal.specs.declared.Refusal.{Refusal}
use Rattle.refusal.specs.Tests.{first_hit}
use Rattle.till.specs.declared.payment.Payment.{Payment}
use Rattle.till.specs.Verdict.{above, answer, last_after, payment, tests, verdict}
use Rattle.till.proofs.Accepting.{none-accepts}
use Rattle.life.specs.Shown.{payment_in, last_shown, accepted}

above_more : (last : Option ℕ) (c d : ℕ) → above last c ≡ true → c < d → above last d ≡ true
above_more None c d e h = refl
above_more (Some l) c d e h = let k : l < c = ltb-true l c e in lt-ltb l d (omega arith)

-- what is accepted is above the last
abbrev Fresh : Option ℕ → Result Payment Refusal → Type 0
Fresh last (Ok paid) = above last paid.counter ≡ true
Fresh last (Err e) = Unit {0}

fresh_by : (last : Option ℕ) (o : Option Refusal) (paid : Payment) → (o ≡ None → above last paid.counter ≡ true) → Fresh last (answer o paid)
fresh_by last None paid f = f refl
fresh_by last (Some e) paid f = tt

module _ (s : Params) (sound : Sound s) (key : List ℕ) (c : ℕ) where
  fresh : (last : Option ℕ) (bytes : List ℕ) → Fresh last (verdict s key last bytes)
  fresh last bytes = fresh_by last (first_hit (tests s key last bytes)) (payment s bytes) (λ none. (none-accepts s sound key last bytes none).2)

  abbrev Below : List Payment → Type 0
  Below = AllByRecursion (λ (paid : Payment). paid.counter < c)

  -- c is above the last counter, so it is above all that were accepted
  abbrev Down : Option ℕ → List (List ℕ) → Type 0
  Down last shown = above (last_shown s key last shown) c ≡ true → (above last c ≡ true) × Below (accepted s key last shown)

  down_by : (last : Option ℕ) (v : Result Payment Refusal) (more : List (List ℕ)) → Fresh last v → ((l : Option ℕ) → Down l more) →
      above (last_shown s key (last_after last v) more) c ≡ true → (above last c ≡ true) × Below (payment_in v ++ accepted s key (last_after last v) more)
  down_by last (Err e) more f ih h = ih last h
  down_by last (Ok paid) more f ih h =
      let r = ih (Some paid.counter) h in
      let lt : paid.counter < c = ltb-true paid.counter c r.0 in
      (above_more last paid.counter c f lt, (lt, r.1))

  down-from : (shown : List (List ℕ)) (last : Option ℕ) → Down last shown
  down-from [] last h = (h, tt)
  down-from (bytes ∷ more) last h = down_by last (verdict s key last bytes) more (fresh last bytes) (down-from more) h

  pub down : (shown : List (List ℕ)) → above (last_shown s key None shown) c ≡ true → AllByRecursion (λ (paid : Payment). paid.counter < c) (accepted s key None shown)
  down shown h = (down-from shown None h).1

  -- and back
  abbrev Up : Option ℕ → List (List ℕ) → Type 0
  Up last shown = above last c ≡ true → Below (accepted s key last shown) → above (last_shown s key last shown) c ≡ true

  up_by : (last : Option ℕ) (v : Result Payment Refusal) (more : List (List ℕ)) → ((l : Option ℕ) → Up l more) →
      above last c ≡ true → Below (payment_in v ++ accepted s key (last_after last v) more) → above (last_shown s key (last_after last v) more) c ≡ true
  up_by last (Err e) more ih h q = ih last h q
  up_by last (Ok paid) more ih h q = ih (Some paid.counter) (lt-ltb paid.counter c q.0) q.1

  up_from : (shown : List (List ℕ)) (last : Option ℕ) → Up last shown
  up_from [] last h q = h
  up_from (bytes ∷ more) last h q = up_by last (verdict s key last bytes) more (up_from more) h q

  pub up : (shown : List (List ℕ)) → AllByRecursion (λ (paid : Payment). paid.counter < c) (accepted s key None shown) → above (last_shown s key None shown) c ≡ true
  up shown q = up_from shown None refl q
