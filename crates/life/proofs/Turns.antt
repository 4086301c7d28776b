-- One call of a life: what its answer accounts for, and what it leaves.
use Rattle.std.proofs.Common.{◌≡◌, ℕ, ◌+◌, ◌*◌, ◌<◌, ◌≤◌, Bool, true, ◌&&◌, ltb, leb, List, [], ◌∷◌, ◌++◌, map, length, Some, None, Option, refl, ap, subst, arith}
use Rattle.std.specs.List.{range_with_len, AllByRecursion}
use Rattle.std.proofs.lemmas.Bool.{and_parts, leb-true, ltb-true}
use Rattle.refusal.specs.declared.Refusal.{Refusal}
use Rattle.refusal.specs.declared.Refusal.TheVariants.{AreaSize, Tries, CounterEnd}
use Rattle.refusal.specs.Tests.{unless, first_hit}
use Rattle.record.specs.Layout.{Content}
use Rattle.plain.specs.Run.{Outcome, signed, nonces_ended, masks_ended, all_failed, Fate, passed, Attempt, Run, closed, passes}
use Rattle.plain.specs.Laws.{words_of, own_nonces, ComesFrom, Fates}
use Rattle.plain.proofs.Accounting.{signing_accounts}
use Rattle.card.specs.Sign.{tries_test, counter_test, counter_after}
use Rattle.till.proofs.Hits.{none_first, none_later, passed_true}
use Rattle.life.specs.declared.call.Call.{Call}
use Rattle.life.specs.declared.call.Call.TheVariants.{Sign, Remask, Report}
use Rattle.life.specs.Life.{MadeCard, CardState, Answer, sign_tests, run_of, sign_answer, answer_to, after_sign, after_call, record_in, record_of, digest_in, attempts_in}
use Rattle.life.specs.Laws.{SoundCard, Tallied}

-- no test of a sign hits: there are tries, and the counter can rise
runs : (counter tries : ℕ) (fits : Bool) → first_hit (sign_tests counter tries fits) ≡ None → (0 < tries) × (counter < 65535)
runs counter tries fits h =
    let h1 = none_later (unless fits AreaSize) _ h in
    let t1 : leb 1 tries && leb tries 255 ≡ true = passed_true _ Tries (none_first (tries_test tries) _ h1) in
    let t2 : ltb counter 65535 ≡ true = passed_true _ CounterEnd (none_first (counter_test counter) _ (none_later (tries_test tries) _ h1)) in
    let some : 0 < tries = omega (arith, leb-true 1 tries (and_parts (leb 1 tries) (leb tries 255) t1).0) in
    (some, ltb-true counter 65535 t2)

module _ (made : MadeCard) (card : SoundCard made) where
  -- a record that 2n nonces made for this digest and counter, and whose check passed
  pub record Genuine (digest : List ℕ) (counter : ℕ) (r : Content) : Type 0 where
    pub y : List ℕ
    pub long : length y ≡ 2 * made.set.n
    pub is : r ≡ closed made.set made.key digest counter y
    pub ok : passes made.set r ≡ true
    pub small : counter < 65536

  abbrev pub Own : List ℕ → ℕ → Attempt → Type 0
  Own digest counter t = ComesFrom made.set made.key digest counter (own_nonces made.set made.shares t) t.fate

  -- what the answer x to a call accounts for, between the states c and c'
  pub record Turn (c : CardState) (digest : List ℕ) (x : Answer) (c' : CardState) : Type 0 where
    pub in_order : c.nonces.words ≡ words_of (attempts_in x) ++ c'.nonces.words
    pub own : AllByRecursion (Own digest (c.counter + 1)) (attempts_in x)
    pub tallied : Tallied x
    pub genuine : AllByRecursion (Genuine digest (c.counter + 1)) (record_of x)
    pub numbers : map (λ (r : Content). r.counter) (record_of x) ≡ range_with_len (c.counter + 1) (length (record_of x))
    pub counter : c'.counter ≡ c.counter + length (record_of x)
    pub most : c.counter ≤ 65535 → c'.counter ≤ 65535

  -- the record is the last attempt's
  last-attempt : (digest : List ℕ) (counter : ℕ) → counter < 65536 → (r : Content) (ts : List Attempt) → Fates (signed r) ts → AllByRecursion (Own digest counter) ts → Genuine digest counter r
  last-attempt digest counter small r [] f o = absurd f
  last-attempt digest counter small r (t ∷ []) f o =
      let came : ComesFrom made.set made.key digest counter (own_nonces made.set made.shares t) (passed r) =
      subst (λ (u : Fate). ComesFrom made.set made.key digest counter (own_nonces made.set made.shares t) u) f o.0 in
      record { y = own_nonces made.set made.shares t; long = came.0; is = came.1; ok = came.2; small = small }
  last-attempt digest counter small r (t ∷ u ∷ more) f o = last-attempt digest counter small r (u ∷ more) f.1 o.1

  counter-of : (digest : List ℕ) (counter : ℕ) (r : Content) → Genuine digest counter r → r.counter ≡ counter
  unfolding closed
  counter-of digest counter r g = ap (λ (u : Content). u.counter) g.is

  -- what the end of a run comes to
  record Ended (digest : List ℕ) (counter : ℕ) (o : Outcome) : Type 0 where
    pub genuine : AllByRecursion (Genuine digest (counter + 1)) (record_in o)
    pub numbers : map (λ (r : Content). r.counter) (record_in o) ≡ range_with_len (counter + 1) (length (record_in o))
    pub counter-is : counter_after o counter ≡ counter + length (record_in o)
    pub most : counter_after o counter ≤ 65535

  ended : (digest : List ℕ) (counter : ℕ) → counter < 65535 → (o : Outcome) (ts : List Attempt) → Fates o ts → AllByRecursion (Own digest (counter + 1)) ts → Ended digest counter o
  ended digest counter low (signed r) ts f own =
      let g = last-attempt digest (counter + 1) (omega arith) r ts f own in
      record { genuine = (g, tt); numbers = ap (λ (k : ℕ). k ∷ []) (counter-of digest (counter + 1) r g); counter-is = refl; most = omega arith }
  ended digest counter low (nonces_ended x) ts f own = record { genuine = tt; numbers = refl; counter-is = omega arith; most = omega arith }
  ended digest counter low (masks_ended x) ts f own = record { genuine = tt; numbers = refl; counter-is = omega arith; most = omega arith }
  ended digest counter low all_failed ts f own = record { genuine = tt; numbers = refl; counter-is = omega arith; most = omega arith }

  module _ (c : CardState) (digest : List ℕ) (tries : ℕ) where
    abbrev r : Run
    r = run_of made c digest tries

    ran-turn : 0 < tries → c.counter < 65535 → Turn c digest (sign_answer None r) (after_sign None c r)
    ran-turn some low =
        let v = signing_accounts made.set card.sound made.key made.shares card.some digest c.counter tries some c.nonces c.masks in
        let e = ended digest c.counter low r.outcome r.attempts v.fates v.own in
        record { in_order = v.in_order; own = v.own; tallied = (v.counted, v.fates); genuine = e.genuine; numbers = e.numbers; counter = e.counter-is; most = λ _. e.most }

    refused-turn : (e : Refusal) → Turn c digest (sign_answer (Some e) r) (after_sign (Some e) c r)
    refused-turn e = record { in_order = refl; own = tt; tallied = tt; genuine = tt; numbers = refl; counter = omega arith; most = λ h. h }

    sign-turn : (o : Option Refusal) → (o ≡ None → (0 < tries) × (c.counter < 65535)) → Turn c digest (sign_answer o r) (after_sign o c r)
    sign-turn None f = ran-turn (f refl).0 (f refl).1
    sign-turn (Some e) f = refused-turn e

  pub turn : (c : CardState) (call : Call) (fits : Bool) → Turn c (digest_in call) (answer_to made c call fits) (after_call made c call fits)
  turn c (Sign digest tries) fits = sign-turn c digest tries (first_hit (sign_tests c.counter tries fits)) (runs c.counter tries fits)
  turn c Remask fits = record { in_order = refl; own = tt; tallied = tt; genuine = tt; numbers = refl; counter = omega arith; most = λ h. h }
  turn c Report fits = record { in_order = refl; own = tt; tallied = tt; genuine = tt; numbers = refl; counter = omega arith; most = λ h. h }
