-- An attempt that has its nonces, as a part of the run.
use Rattle.std.proofs.Common.{◌≡◌, ℕ, ◌+◌, ◌-◌, ◌*◌, ◌<◌, ◌≤◌, true, false, leb, List, [], length, sym, ap, ◌∙◌, add-zero, arith, length-drop, le-ltb}
use Rattle.params.specs.Params.{Params}
use Rattle.words.specs.declared.Mark.{Mark}
use Rattle.words.specs.Flow.{Flow}
use Rattle.words.specs.Spending.{Spent, Short}
use Rattle.words.proofs.Spendings.{spent_as, spent_then}
use Rattle.refusal.specs.declared.fault.Step.{Step}
use Rattle.refusal.specs.declared.fault.Step.TheVariants.{Commit, Check, Open}
use Rattle.record.specs.Layout.{Content}
use Rattle.plain.specs.Costs.{cost}
use Rattle.plain.specs.Nonces.{whole}
use Rattle.plain.specs.Run.{Setting, masks_ended, signed, all_failed, passed, rejected, unfinished, choose, closed, finish, passes, run, stop, after_rejected}
use Rattle.plain.proofs.Paths.{choose_not, finish-short-commit, finish-short-check, finish-short-open, finish-passed, finish-rejected, short-at}
use Rattle.drawing.specs.Resume.{Subject, Supply, setting_of, resume, Fits, Stops}
use Rattle.drawing.specs.Drawing.{Drawing}
use Rattle.drawing.proofs.Resuming.{all_taken}
use Rattle.attempt.specs.Attempt.{Rejected}

spent_length : {k : ℕ} {f f' : Flow} → Spent k f f' → length f.words ≡ k + length f'.words
spent_length {k = k} {f = f} s = let l = ap length s.rest ∙ length-drop k f.words in let h = s.enough in omega arith

module _ (s : Params) (m : ℕ) (pos : 0 < m) (u : Subject) (y : List ℕ) (n n' f f₁ : Flow) (d : Drawing s m u y n n' f f₁) (long : length y ≡ 2 * s.n) where
  abbrev r : Content
  r = closed s u.key u.digest u.counter y

  module _ (x : Supply) (more a i₀ k₀ : ℕ) (p : Fits x m k₀ n f) where
    abbrev e : Setting
    e = setting_of s m u x

    -- the run from the attempt's start is its finish
    full : resume (setting_of s m u x) more a [] [] i₀ k₀ n.words ≡ finish (setting_of s m u x) more a d.words (i₀ + d.seen) n'.words (closed s u.key u.digest u.counter y) (k₀ + d.spent) (λ k. run (setting_of s m u x) (more - 1) (a + 1) [] [] (i₀ + d.seen) k (whole m n'.words))
    unfolding resume
    full = d.leads.goes x more a i₀ k₀ p ∙ choose_not _ _ _ (le-ltb _ _ (omega arith))

    -- how many mask words there are from there on
    count : x.mask_count ≡ k₀ + d.spent + length f₁.words
    count = let c = p.mask_count in let l = spent_length d.masks in omega arith

  -- the run stops for want of masks in a step
  short-stops : (step : Step) (mk : Mark) (f₃ : Flow) → mk ≡ f.mark → Spent (length f.words) f f₃
      → ((x : Supply) (more a i₀ k₀ : ℕ) (p : Fits x m k₀ n f) → finish (e x more a i₀ k₀ p) more a d.words (i₀ + d.seen) n'.words r (k₀ + d.spent) (λ k. run (e x more a i₀ k₀ p) (more - 1) (a + 1) [] [] (i₀ + d.seen) k (whole m n'.words)) ≡ short-at (e x more a i₀ k₀ p) step a d.words (i₀ + d.seen) n'.words)
      → Stops s m u [] [] (λ a. masks_ended (record { mark = mk; attempt = a; step = step })) n n' f f₃
  short-stops step mk f₃ why taken ends = record {
    words = d.words;
    fate = unfinished;
    seen = d.seen;
    extra = 0;
    spent = length f.words;
    few = pos;
    nonces = spent_as d.nonces (sym (add-zero (m * d.seen)));
    masks = taken;
    goes = λ x more a i₀ k₀ p.
        full x more a i₀ k₀ p
        ∙ ends x more a i₀ k₀ p
        ∙ ap (λ (k : Mark). stop (e x more a i₀ k₀ p) (masks_ended (record { mark = k; attempt = a; step = step })) d.words unfinished (i₀ + d.seen) 0 x.mask_count n'.words) (p.mask_mark ∙ sym why)
        ∙ ap (λ (k : ℕ). stop (e x more a i₀ k₀ p) (masks_ended (record { mark = mk; attempt = a; step = step })) d.words unfinished (i₀ + d.seen) 0 k n'.words) p.mask_count;
  }

  pub commit-stops : (mk : Mark) (f₂ : Flow) → Short (0 + cost s m Commit) mk f₁ f₂ → Stops s m u [] [] (λ a. masks_ended (record { mark = mk; attempt = a; step = Commit })) n n' f f₂
  commit-stops mk f₂ t = short-stops Commit mk f₂ (t.why ∙ d.masks.mark) (spent_as (spent_then d.masks (all_taken t)) (sym (spent_length d.masks)))
      λ x more a i₀ k₀ p. finish-short-commit (e x more a i₀ k₀ p) a d.words (i₀ + d.seen) n'.words more r (k₀ + d.spent) _ (let c = count x more a i₀ k₀ p in let h = t.few in omega arith)

  -- once the commitment is open
  module _ (f₂ : Flow) (sc : Spent (cost s m Commit) f₁ f₂) where
    module _ (x : Supply) (more a i₀ k₀ : ℕ) (p : Fits x m k₀ n f) where
      paid : k₀ + d.spent + cost s m Commit ≤ x.mask_count
      paid = let c = count x more a i₀ k₀ p in let h = sc.enough in omega arith

      count₂ : x.mask_count ≡ k₀ + d.spent + cost s m Commit + length f₂.words
      count₂ = let c = count x more a i₀ k₀ p in let l = spent_length sc in omega arith

    pub check-stops : (mk : Mark) (f₃ : Flow) → Short (0 + cost s m Check) mk f₂ f₃ → Stops s m u [] [] (λ a. masks_ended (record { mark = mk; attempt = a; step = Check })) n n' f f₃
    check-stops mk f₃ t =
        let all = spent_then d.masks sc in
        short-stops Check mk f₃ (t.why ∙ all.mark) (spent_as (spent_then all (all_taken t)) (sym (spent_length all)))
        λ x more a i₀ k₀ p. finish-short-check (e x more a i₀ k₀ p) a d.words (i₀ + d.seen) n'.words more r (k₀ + d.spent) _ (paid x more a i₀ k₀ p) (let c = count₂ x more a i₀ k₀ p in let h = t.few in omega arith)

    pub open-stops : (mk : Mark) (f₃ : Flow) → passes s r ≡ true → cost s m Check ≤ length f₂.words → Short (cost s m Check + cost s m Open) mk f₂ f₃ → Stops s m u [] [] (λ a. masks_ended (record { mark = mk; attempt = a; step = Open })) n n' f f₃
    open-stops mk f₃ ok checked t =
        let all = spent_then d.masks sc in
        short-stops Open mk f₃ (t.why ∙ all.mark) (spent_as (spent_then all (all_taken t)) (sym (spent_length all)))
        λ x more a i₀ k₀ p.
        let c = count₂ x more a i₀ k₀ p in
        finish-short-open (e x more a i₀ k₀ p) a d.words (i₀ + d.seen) n'.words more r (k₀ + d.spent) _ (paid x more a i₀ k₀ p) (omega arith) ok (let h = t.few in omega arith)

    pub passed-stops : (f₃ : Flow) → passes s r ≡ true → Spent (cost s m Check + cost s m Open) f₂ f₃ → Stops s m u [] [] (λ a. signed r) n n' f f₃
    passed-stops f₃ ok t = record {
      words = d.words;
      fate = passed r;
      seen = d.seen;
      extra = 0;
      spent = d.spent + cost s m Commit + (cost s m Check + cost s m Open);
      few = pos;
      nonces = spent_as d.nonces (sym (add-zero (m * d.seen)));
      masks = spent_then (spent_then d.masks sc) t;
      goes = λ x more a i₀ k₀ p.
          let c = count₂ x more a i₀ k₀ p in
          let h = t.enough in
          let sum : k₀ + d.spent + cost s m Commit + cost s m Check + cost s m Open ≡ k₀ + (d.spent + cost s m Commit + (cost s m Check + cost s m Open)) = omega arith in
          full x more a i₀ k₀ p
          ∙ finish-passed (e x more a i₀ k₀ p) a d.words (i₀ + d.seen) n'.words more r (k₀ + d.spent) _ (paid x more a i₀ k₀ p) (omega arith) ok (omega arith)
          ∙ ap (λ (k : ℕ). stop (e x more a i₀ k₀ p) (signed r) d.words (passed r) (i₀ + d.seen) 0 k n'.words) sum;
    }

    pub rejected-goes : (f₃ : Flow) → passes s r ≡ false → Spent (cost s m Check) f₂ f₃ → Rejected s m u n n' f f₃
    rejected-goes f₃ ok t =
        let all = spent_then (spent_then d.masks sc) t in
        record {
          words = d.words;
          content = r;
          seen = d.seen;
          spent = d.spent + cost s m Commit + cost s m Check;
          nonces = d.nonces;
          masks = all;
          fits = λ x k₀ p.
              let q = d.leads.fits x k₀ p in
              let c = p.mask_count in
              let l = spent_length all in
              record { cut = q.cut; nonce_mark = q.nonce_mark; mask_mark = p.mask_mark ∙ sym all.mark; mask_count = omega arith };
          goes = λ x more a i₀ k₀ p.
              let c = count₂ x more a i₀ k₀ p in
              let h = t.enough in
              let E = e x more a i₀ k₀ p in
              let sum : k₀ + d.spent + cost s m Commit + cost s m Check ≡ k₀ + (d.spent + cost s m Commit + cost s m Check) = omega arith in
              full x more a i₀ k₀ p
              ∙ finish-rejected E a d.words (i₀ + d.seen) n'.words more r (k₀ + d.spent) _ (paid x more a i₀ k₀ p) (omega arith) ok
              ∙ ap (λ (k : ℕ). choose (leb more 0) (stop E all_failed d.words (rejected r) (i₀ + d.seen) 0 k n'.words) (after_rejected d.words r (run E (more - 1) (a + 1) [] [] (i₀ + d.seen) k (whole m n'.words)))) sum;
        }
