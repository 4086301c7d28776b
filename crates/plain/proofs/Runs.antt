-- What holds of every run, by the ways that it can go.
use Rattle.std.proofs.Common.{◌≡◌, ℕ, ◌+◌, ◌-◌, ◌*◌, ◌≤◌, Bool, true, false, ltb, leb, List, [], ◌∷◌, ◌++◌, length, refl}
use Rattle.std.proofs.lemmas.Bool.{cond_both, leb-true}
use Rattle.refusal.specs.declared.fault.Step.{Step}
use Rattle.refusal.specs.declared.fault.Step.TheVariants.{Candidate, Conversion, Commit, Check, Open}
use Rattle.record.specs.Layout.{Content}
use Rattle.plain.specs.Nonces.{limit, candidate, coefficient}
use Rattle.plain.specs.Run.{Setting, Run, signed, nonces_ended, all_failed, passed, rejected, unfinished, at, stop, charge, choose, consider, finish, after_rejected, closed, passes, run}
use Rattle.plain.proofs.Groups.{flat}
use Rattle.plain.proofs.Paths.{price, short-at}

-- each way of a test
pub pick : (Q : Run → Type 0) (b : Bool) {x y : Run} → (b ≡ true → Q x) → (b ≡ false → Q y) → Q (choose b x y)
unfolding choose
pick Q true f g = f refl
pick Q false f g = g refl

module _ (Q : Run → Type 0) (e : Setting) (a : ℕ) (ws : List ℕ) (seen : ℕ) (left : List ℕ) where
  charge-keeps : (step : Step) (spent : ℕ) (next : ℕ → Run) → ((s : ℕ) → s ≤ e.mask_count → Q (next s)) → Q (short-at e step a ws seen left) → Q (charge e step a ws seen left spent next)
  unfolding charge
  charge-keeps step spent next f g =
      let c = spent + price e step in
      cond_both (leb c e.mask_count) (next c) (short-at e step a ws seen left) Q (λ t. f c (leb-true c e.mask_count t)) (λ _. g)

  module _ (short : (step : Step) → Q (short-at e step a ws seen left)) where
    consider-keeps : (i x spent : ℕ) (refuse accept : ℕ → Run) →
        ((s : ℕ) → s ≤ e.mask_count → ltb x (limit e.set) ≡ false → Q (refuse s)) →
        ((s : ℕ) → s ≤ e.mask_count → ltb x (limit e.set) ≡ true → Q (accept s)) →
        Q (consider e a i ws seen left x spent refuse accept)
    unfolding consider
    consider-keeps i x spent refuse accept f g =
        let candidate = Candidate (at e.set i) in
        let conversion = Conversion (at e.set i) in
        charge-keeps candidate spent _ (λ s h. pick Q _ (λ t. charge-keeps conversion s accept (λ u k. g u k t) (short conversion)) (λ t. f s h t)) (short candidate)

    finish-keeps : (more : ℕ) (r : Content) (spent : ℕ) (again : ℕ → Run) →
        ((s : ℕ) → s ≤ e.mask_count → passes e.set r ≡ true → Q (stop e (signed r) ws (passed r) seen 0 s left)) →
        ((s : ℕ) → s ≤ e.mask_count → passes e.set r ≡ false → leb more 0 ≡ true → Q (stop e all_failed ws (rejected r) seen 0 s left)) →
        ((s : ℕ) → s ≤ e.mask_count → passes e.set r ≡ false → leb more 0 ≡ false → Q (after_rejected ws r (again s))) →
        Q (finish e more a ws seen left r spent again)
    unfolding finish
    finish-keeps more r spent again won failed next =
        charge-keeps Commit spent _
        (λ s _. charge-keeps Check s _
        (λ s h. pick Q _ (λ ok. charge-keeps Open s _ (λ s h. won s h ok) (short Open)) (λ ok. pick Q _ (λ l. failed s h ok l) (λ l. next s h ok l)))
        (short Check))
        (short Commit)

module _ (e : Setting) where
  -- the nonces y with that of the group g
  abbrev pub with-one : List ℕ → List ℕ → List ℕ
  with-one y g = y ++ coefficient e.set (candidate e.set g) ∷ []

  -- the record that they make
  abbrev pub made_of : List ℕ → List ℕ → Content
  made_of y g = closed e.set e.key e.digest e.counter (with-one y g)

  -- the candidate of the group g is accepted, or it is not
  abbrev pub Accepted : List ℕ → Bool → Type 0
  Accepted g b = ltb (candidate e.set g) (limit e.set) ≡ b

  -- with one nonce more than y there are still some to make, or there are not
  abbrev pub Wanting : List ℕ → Bool → Type 0
  Wanting y b = ltb (length y + 1) (2 * e.set.n) ≡ b

  -- the words behind the groups that were drawn
  abbrev pub rest_of : List (List ℕ) → List ℕ
  rest_of gs = flat gs ++ e.cut

-- what is claimed of a run from a place on: attempt a, with so many more to follow, has drawn ws and made y; so many whole candidates were seen; and the groups to come
abbrev pub Claim : Type 1
Claim = (more a : ℕ) (ws y : List ℕ) (seen : ℕ) (gs : List (List ℕ)) → Run → Type 0

-- the ways of a run keep the claim P
pub record Kept (e : Setting) (P : Claim) : Type 0 where
  pub ended : (more a : ℕ) (ws y : List ℕ) (seen spent : ℕ) → spent ≤ e.mask_count →
      P more a ws y seen [] (stop e (nonces_ended (record { mark = e.nonce_mark; attempt = a; step = Candidate (at e.set (length y)) })) (ws ++ e.cut) unfinished seen (length e.cut) spent [])
  pub short : (more a : ℕ) (ws y : List ℕ) (seen : ℕ) (step : Step) (g : List ℕ) (gs : List (List ℕ)) →
      P more a ws y seen (g ∷ gs) (short-at e step a (ws ++ g) (seen + 1) (rest_of e gs))
  pub refused : (more a : ℕ) (ws y : List ℕ) (seen : ℕ) (g : List ℕ) (gs : List (List ℕ)) (r : Run) → Accepted e g false →
      P more a (ws ++ g) y (seen + 1) gs r → P more a ws y seen (g ∷ gs) r
  pub accepted : (more a : ℕ) (ws y : List ℕ) (seen : ℕ) (g : List ℕ) (gs : List (List ℕ)) (r : Run) → Accepted e g true → Wanting e y true →
      P more a (ws ++ g) (with-one e y g) (seen + 1) gs r → P more a ws y seen (g ∷ gs) r
  pub won : (more a : ℕ) (ws y : List ℕ) (seen spent : ℕ) (g : List ℕ) (gs : List (List ℕ)) → spent ≤ e.mask_count → Accepted e g true → Wanting e y false → passes e.set (made_of e y g) ≡ true →
      P more a ws y seen (g ∷ gs) (stop e (signed (made_of e y g)) (ws ++ g) (passed (made_of e y g)) (seen + 1) 0 spent (rest_of e gs))
  pub failed : (more a : ℕ) (ws y : List ℕ) (seen spent : ℕ) (g : List ℕ) (gs : List (List ℕ)) → spent ≤ e.mask_count → Accepted e g true → Wanting e y false → passes e.set (made_of e y g) ≡ false → leb more 0 ≡ true →
      P more a ws y seen (g ∷ gs) (stop e all_failed (ws ++ g) (rejected (made_of e y g)) (seen + 1) 0 spent (rest_of e gs))
  pub again : (more a : ℕ) (ws y : List ℕ) (seen : ℕ) (g : List ℕ) (gs : List (List ℕ)) (r : Run) → Accepted e g true → Wanting e y false → passes e.set (made_of e y g) ≡ false → leb more 0 ≡ false →
      P (more - 1) (a + 1) [] [] (seen + 1) gs r → P more a ws y seen (g ∷ gs) (after_rejected (ws ++ g) (made_of e y g) r)

-- then the claim holds of the run
pub run_keeps : {e : Setting} {P : Claim} → Kept e P → (more a : ℕ) (ws y : List ℕ) (seen spent : ℕ) → spent ≤ e.mask_count → (gs : List (List ℕ)) → P more a ws y seen gs (run e more a ws y seen spent gs)
run_keeps k more a ws y seen spent h [] = k.ended more a ws y seen spent h
run_keeps {e = e} {P = P} k more a ws y seen spent h (g ∷ gs) =
    let Q : Run → Type 0 = P more a ws y seen (g ∷ gs) in
    let ends : (step : Step) → Q (short-at e step a (ws ++ g) (seen + 1) (rest_of e gs)) = λ step. k.short more a ws y seen step g gs in
    consider-keeps Q e a (ws ++ g) (seen + 1) (rest_of e gs) ends (length y) (candidate e.set g) spent _ _
    (λ s h t. k.refused more a ws y seen g gs _ t (run_keeps k more a (ws ++ g) y (seen + 1) s h gs))
    (λ s h t. pick Q _
    (λ l. k.accepted more a ws y seen g gs _ t l (run_keeps k more a (ws ++ g) _ (seen + 1) s h gs))
    (λ l. finish-keeps Q e a (ws ++ g) (seen + 1) (rest_of e gs) ends more (made_of e y g) s _
    (λ u h ok. k.won more a ws y seen u g gs h t l ok)
    (λ u h ok none. k.failed more a ws y seen u g gs h t l ok none)
    (λ u h ok some. k.again more a ws y seen g gs _ t l ok some (run_keeps k (more - 1) (a + 1) [] [] (seen + 1) u h gs))))
