-- The ways of a run as equations, for the loops of the code.
use Rattle.std.proofs.Common.{◌≡◌, ℕ, ◌+◌, ◌<◌, ◌≤◌, Bool, true, false, cond, leb, List, ap, ◌∙◌, le-ltb, lt-ltb, le-leb}
use borrow.Author.Tests.{lt-leb}
use Rattle.refusal.specs.declared.fault.Step.{Step}
use Rattle.refusal.specs.declared.fault.Step.TheVariants.{Candidate, Conversion, Commit, Check, Open}
use Rattle.record.specs.Layout.{Content}
use Rattle.plain.specs.Nonces.{limit}
use Rattle.plain.specs.Costs.{cost}
use Rattle.plain.specs.Run.{Setting, Run, signed, masks_ended, all_failed, passed, rejected, unfinished, at, stop, charge, choose, consider, finish, after_rejected, passes}

cond_is : {A : Type 0} (b : Bool) (x y : A) → b ≡ true → cond b x y ≡ x
cond_is b x y e = ap (λ (t : Bool). cond t x y) e

cond-not : {A : Type 0} (b : Bool) (x y : A) → b ≡ false → cond b x y ≡ y
cond-not b x y e = ap (λ (t : Bool). cond t x y) e

pub choose_is : (b : Bool) (x y : Run) → b ≡ true → choose b x y ≡ x
unfolding choose
choose_is b x y e = cond_is b x y e

pub choose_not : (b : Bool) (x y : Run) → b ≡ false → choose b x y ≡ y
unfolding choose
choose_not b x y e = cond-not b x y e

module _ (e : Setting) where
  -- the words of a step
  abbrev pub price : Step → ℕ
  price step = cost e.set e.shares step

  -- the end for want of masks in a step
  abbrev pub short-at : Step → (a : ℕ) (ws : List ℕ) (seen : ℕ) (left : List ℕ) → Run
  short-at step a ws seen left = stop e (masks_ended (record { mark = e.mask_mark; attempt = a; step = step })) ws unfinished seen 0 e.mask_count left

  module _ (a : ℕ) (ws : List ℕ) (seen : ℕ) (left : List ℕ) where
    pub charge-paid : (step : Step) (spent : ℕ) (next : ℕ → Run) → spent + price step ≤ e.mask_count → charge e step a ws seen left spent next ≡ next (spent + price step)
    unfolding charge
    charge-paid step spent next h = cond_is _ _ _ (le-leb _ _ h)

    pub charge-short : (step : Step) (spent : ℕ) (next : ℕ → Run) → e.mask_count < spent + price step → charge e step a ws seen left spent next ≡ short-at step a ws seen left
    unfolding charge
    charge-short step spent next h = cond-not _ _ _ (lt-leb _ _ h)

    -- one candidate, for the i-th coefficient
    module _ (i x spent : ℕ) (refuse accept : ℕ → Run) where
      pub consider-short : e.mask_count < spent + price (Candidate (at e.set i)) → consider e a i ws seen left x spent refuse accept ≡ short-at (Candidate (at e.set i)) a ws seen left
      unfolding consider
      consider-short h = charge-short (Candidate (at e.set i)) spent _ h

      module _ (paid : spent + price (Candidate (at e.set i)) ≤ e.mask_count) where
        pub consider-refused : limit e.set ≤ x → consider e a i ws seen left x spent refuse accept ≡ refuse (spent + price (Candidate (at e.set i)))
        unfolding consider
        consider-refused k = charge-paid (Candidate (at e.set i)) spent _ paid ∙ choose_not _ _ _ (le-ltb _ _ k)

        pub consider-accepted : x < limit e.set → consider e a i ws seen left x spent refuse accept ≡ charge e (Conversion (at e.set i)) a ws seen left (spent + price (Candidate (at e.set i))) accept
        unfolding consider
        consider-accepted k = charge-paid (Candidate (at e.set i)) spent _ paid ∙ choose_is _ _ _ (lt-ltb _ _ k)

    -- an attempt whose nonces make r
    module _ (more : ℕ) (r : Content) (spent : ℕ) (again : ℕ → Run) where
      pub finish-short-commit : e.mask_count < spent + price Commit → finish e more a ws seen left r spent again ≡ short-at Commit a ws seen left
      unfolding finish
      finish-short-commit h = charge-short Commit spent _ h

      module _ (paid : spent + price Commit ≤ e.mask_count) where
        pub finish-short-check : e.mask_count < spent + price Commit + price Check → finish e more a ws seen left r spent again ≡ short-at Check a ws seen left
        unfolding finish
        finish-short-check h = charge-paid Commit spent _ paid ∙ charge-short Check (spent + price Commit) _ h

        module _ (checked : spent + price Commit + price Check ≤ e.mask_count) where
          -- all that follows once the check is paid
          pub finish-rejected : passes e.set r ≡ false →
              finish e more a ws seen left r spent again
              ≡ choose (leb more 0) (stop e all_failed ws (rejected r) seen 0 (spent + price Commit + price Check) left) (after_rejected ws r (again (spent + price Commit + price Check)))
          unfolding finish
          finish-rejected ok = charge-paid Commit spent _ paid ∙ charge-paid Check (spent + price Commit) _ checked ∙ choose_not _ _ _ ok

          -- .. and no try is left, or one is
          pub finish-failed : passes e.set r ≡ false → more ≤ 0 → finish e more a ws seen left r spent again ≡ stop e all_failed ws (rejected r) seen 0 (spent + price Commit + price Check) left
          finish-failed ok none = finish-rejected ok ∙ choose_is _ _ _ (le-leb _ _ none)

          pub finish-again : passes e.set r ≡ false → 0 < more → finish e more a ws seen left r spent again ≡ after_rejected ws r (again (spent + price Commit + price Check))
          finish-again ok some = finish-rejected ok ∙ choose_not _ _ _ (lt-leb _ _ some)

          module _ (ok : passes e.set r ≡ true) where
            opened : finish e more a ws seen left r spent again ≡ charge e Open a ws seen left (spent + price Commit + price Check) λ spent. stop e (signed r) ws (passed r) seen 0 spent left
            unfolding finish
            opened = charge-paid Commit spent _ paid ∙ charge-paid Check (spent + price Commit) _ checked ∙ choose_is _ _ _ ok

            pub finish-short-open : e.mask_count < spent + price Commit + price Check + price Open → finish e more a ws seen left r spent again ≡ short-at Open a ws seen left
            finish-short-open h = opened ∙ charge-short Open (spent + price Commit + price Check) _ h

            pub finish-passed : spent + price Commit + price Check + price Open ≤ e.mask_count → finish e more a ws seen left r spent again ≡ stop e (signed r) ws (passed r) seen 0 (spent + price Commit + price Check + price Open) left
            finish-passed h = opened ∙ charge-paid Open (spent + price Commit + price Check) _ h
