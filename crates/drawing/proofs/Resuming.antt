-- How the run goes on, candidate by candidate.
use Rattle.std.proofs.Common.{◌≡◌, ℕ, ◌+◌, ◌-◌, ◌*◌, ◌<◌, ◌≤◌, ltb, List, [], ◌∷◌, ◌++◌, length, take, sym, ap, ◌∙◌, subst, ap₂, add-zero, add_assoc, mul-zero, mul-one, mul-add, arith, length-drop, lt-ltb}
use Rattle.std.proofs.lemmas.List.{drop_all, length_push}
use Rattle.params.specs.Params.{Params}
use Rattle.words.specs.declared.Mark.{Mark}
use Rattle.words.specs.Flow.{Flow}
use Rattle.words.specs.Spending.{Spent, Short}
use Rattle.words.proofs.Spendings.{spent_as, spent_none, spent_then}
use Rattle.refusal.specs.declared.fault.Step.TheVariants.{Candidate, Conversion}
use Rattle.shares.specs.Refresh.{pairs}
use Rattle.plain.specs.Nonces.{limit, whole, cut_short, candidate, coefficient}
use Rattle.plain.specs.Costs.{cost, mask_words}
use Rattle.plain.specs.Run.{Setting, Run, Outcome, nonces_ended, masks_ended, unfinished, at, choose, closed, finish, run, stop}
use Rattle.plain.proofs.Groups.{flat, whole-and-cut, whole-few, cut_all, whole-more, cut-more}
use Rattle.plain.proofs.Paths.{choose_is, charge-paid, charge-short, consider-short, consider-refused, consider-accepted}
use Rattle.drawing.specs.Resume.{Subject, Supply, setting_of, resume, Fits, Leads, Stops}
use Rattle.drawing.specs.Drawing.{Drawing}

-- a source that came short has given all it had
pub all_taken : {k : ℕ} {e : Mark} {f f' : Flow} → Short k e f f' → Spent (length f.words) f f'
all_taken {f = f} s = record { enough = omega arith; rest = s.rest ∙ sym (drop_all (length f.words) f.words (omega arith)); mark = s.mark; origin = s.origin }

module _ (s : Params) (m : ℕ) (pos : 0 < m) (u : Subject) where
  -- while nonces are wanted, the attempt goes on drawing
  pub wanting : (x : Supply) (more a : ℕ) (ws y : List ℕ) (seen spent : ℕ) (words : List ℕ) → length y < 2 * s.n → resume (setting_of s m u x) more a ws y seen spent words ≡ run (setting_of s m u x) more a ws y seen spent (whole m words)
  unfolding resume
  wanting x more a ws y seen spent words h = choose_is _ _ _ (lt-ltb _ _ h)

  leads-none : (ws y : List ℕ) (n f : Flow) → Leads s m u ws y n f 0 0 ws y n f
  leads-none ws y n f = record {
    fits = λ x k h. subst (λ (t : ℕ). Fits x m t n f) (sym (add-zero k)) h;
    goes = λ x more a i k h. ap₂ (λ (i k : ℕ). resume (setting_of s m u x) more a ws y i k n.words) (sym (add-zero i)) (sym (add-zero k));
  }

  leads-then : {ws y ws₁ y₁ ws₂ y₂ : List ℕ} {n f n₁ f₁ n₂ f₂ : Flow} {i k j l : ℕ} → Leads s m u ws y n f i k ws₁ y₁ n₁ f₁ → Leads s m u ws₁ y₁ n₁ f₁ j l ws₂ y₂ n₂ f₂ → Leads s m u ws y n f (i + j) (k + l) ws₂ y₂ n₂ f₂
  leads-then {ws₂ = ws₂} {y₂ = y₂} {n₂ = n₂} {f₂ = f₂} {i = i} {k = k} {j = j} {l = l} p q = record {
    fits = λ x k₀ h. subst (λ (t : ℕ). Fits x m t n₂ f₂) (add_assoc k₀ k l) (q.fits x (k₀ + k) (p.fits x k₀ h));
    goes = λ x more a i₀ k₀ h.
        p.goes x more a i₀ k₀ h
        ∙ q.goes x more a (i₀ + i) (k₀ + k) (p.fits x k₀ h)
        ∙ ap₂ (λ (i k : ℕ). resume (setting_of s m u x) more a ws₂ y₂ i k n₂.words) (add_assoc i₀ i j) (add_assoc k₀ k l);
  }

  stops-after : {ws y ws₁ y₁ : List ℕ} {o : ℕ → Outcome} {n f n₁ f₁ n₂ f₂ : Flow} {i k : ℕ} → Spent (m * i) n n₁ → Spent k f f₁ → Leads s m u ws y n f i k ws₁ y₁ n₁ f₁ → Stops s m u ws₁ y₁ o n₁ n₂ f₁ f₂ → Stops s m u ws y o n n₂ f f₂
  stops-after {o = o} {n₂ = n₂} {i = i} {k = k} sn sf p q = record {
    words = q.words;
    fate = q.fate;
    seen = i + q.seen;
    extra = q.extra;
    spent = k + q.spent;
    few = q.few;
    nonces = spent_as (spent_then sn q.nonces) (let e = mul-add m i q.seen in omega arith);
    masks = spent_then sf q.masks;
    goes = λ x more a i₀ k₀ h.
        p.goes x more a i₀ k₀ h
        ∙ q.goes x more a (i₀ + i) (k₀ + k) (p.fits x k₀ h)
        ∙ ap₂ (λ (i k : ℕ). stop (setting_of s m u x) (o a) q.words q.fate i q.extra k n₂.words) (add_assoc i₀ i q.seen) (add_assoc k₀ k q.spent);
  }

  -- the nonces end within a group
  pub nonces-short : (ws y : List ℕ) (e : Mark) (n n' f : Flow) → length y < 2 * s.n → Short m e n n' → Stops s m u ws y (λ a. nonces_ended (record { mark = e; attempt = a; step = Candidate (at s (length y)) })) n n' f f
  nonces-short ws y e n n' f h t = record {
    words = ws ++ n.words;
    fate = unfinished;
    seen = 0;
    extra = length n.words;
    spent = 0;
    few = t.few;
    nonces = spent_as (all_taken t) (let z = mul-zero m in omega arith);
    masks = spent_none f;
    goes = λ x more a i₀ k₀ p.
        let E = setting_of s m u x in
        let c : x.cut ≡ n.words = p.cut ∙ cut_all m n.words t.few in
        let last : (c : List ℕ) (k : Mark) (i j : ℕ) (left : List ℕ) → Run =
        λ c k i j left. stop E (nonces_ended (record { mark = k; attempt = a; step = Candidate (at s (length y)) })) (ws ++ c) unfinished i (length c) j left in
        wanting x more a ws y i₀ k₀ n.words h
        ∙ ap (run E more a ws y i₀ k₀) (whole-few m n.words t.few)
        ∙ ap (λ (c : List ℕ). last c x.nonce_mark i₀ k₀ []) c
        ∙ ap (λ (k : Mark). last n.words k i₀ k₀ []) (p.nonce_mark ∙ sym t.why)
        ∙ ap₂ (λ (i j : ℕ). last n.words e i j []) (sym (add-zero i₀)) (sym (add-zero k₀))
        ∙ ap (last n.words e (i₀ + 0) (k₀ + 0)) (sym t.rest);
  }

  -- a whole group is drawn
  module _ (ws y : List ℕ) (n n' f : Flow) (wants : length y < 2 * s.n) (t : Spent m n n') where
    abbrev group : List ℕ
    group = take m n.words

    fits_on : {c : ℕ} {f' : Flow} → Spent c f f' → (x : Supply) (k : ℕ) → Fits x m k n f → Fits x m (k + c) n' f'
    fits_on {c = c} sf x k h =
        let l = ap length sf.rest ∙ length-drop c f.words in
        let enough = sf.enough in
        let count = h.mask_count in
        record {
          cut = h.cut ∙ cut-more m pos n.words t.enough ∙ ap (cut_short m) (sym t.rest);
          nonce_mark = h.nonce_mark ∙ sym t.mark;
          mask_mark = h.mask_mark ∙ sym sf.mark;
          mask_count = omega arith;
        }

    module _ (x : Supply) (more a i₀ k₀ : ℕ) (p : Fits x m k₀ n f) where
      abbrev E : Setting
      E = setting_of s m u x

      abbrev left : List ℕ
      left = flat (whole m n'.words) ++ x.cut

      left_is : flat (whole m n'.words) ++ x.cut ≡ n'.words
      left_is =
          ap (λ (c : List ℕ). flat (whole m n'.words) ++ c) (p.cut ∙ cut-more m pos n.words t.enough ∙ ap (cut_short m) (sym t.rest))
          ∙ whole-and-cut m n'.words

      here : resume (setting_of s m u x) more a ws y i₀ k₀ n.words ≡ run (setting_of s m u x) more a ws y i₀ k₀ (take m n.words ∷ whole m n'.words)
      here =
          wanting x more a ws y i₀ k₀ n.words wants
          ∙ ap (run E more a ws y i₀ k₀) (whole-more m pos n.words t.enough ∙ ap (λ (v : List ℕ). group ∷ whole m v) (sym t.rest))

    pub refused : {f' : Flow} → Spent (17 * pairs m) f f' → limit s ≤ candidate s (take m n.words) → Leads s m u ws y n f 1 (17 * pairs m) (ws ++ take m n.words) y n' f'
    unfolding cost
    refused sf above = record {
      fits = fits_on sf;
      goes = λ x more a i₀ k₀ p.
          let enough = sf.enough in
          let count = p.mask_count in
          let paid : k₀ + 17 * pairs m ≤ x.mask_count = omega arith in
          here x more a i₀ k₀ p
          ∙ consider-refused (E x more a i₀ k₀ p) a (ws ++ group) (i₀ + 1) (left x more a i₀ k₀ p) (length y) (candidate s group) k₀ _ _ paid above
          ∙ sym (wanting x more a (ws ++ group) y (i₀ + 1) (k₀ + 17 * pairs m) n'.words wants);
    }

    pub short-of-candidate : {e : Mark} {f' : Flow} → Short (17 * pairs m) e f f' → Stops s m u ws y (λ a. masks_ended (record { mark = e; attempt = a; step = Candidate (at s (length y)) })) n n' f f'
    unfolding cost
    short-of-candidate {e = e} sf = record {
      words = ws ++ group;
      fate = unfinished;
      seen = 1;
      extra = 0;
      spent = length f.words;
      few = pos;
      nonces = spent_as t (let z = mul-one m in omega arith);
      masks = all_taken sf;
      goes = λ x more a i₀ k₀ p.
          let few = sf.few in
          let count = p.mask_count in
          let short : x.mask_count < k₀ + 17 * pairs m = omega arith in
          let last : (k : Mark) (j : ℕ) (l : List ℕ) → Run = λ k j l. stop (E x more a i₀ k₀ p) (masks_ended (record { mark = k; attempt = a; step = Candidate (at s (length y)) })) (ws ++ group) unfinished (i₀ + 1) 0 j l in
          here x more a i₀ k₀ p
          ∙ consider-short (E x more a i₀ k₀ p) a (ws ++ group) (i₀ + 1) (left x more a i₀ k₀ p) (length y) (candidate s group) k₀ _ _ short
          ∙ ap (λ (k : Mark). last k x.mask_count (left x more a i₀ k₀ p)) (p.mask_mark ∙ sym sf.why)
          ∙ ap₂ (λ (j : ℕ) (l : List ℕ). last e j l) count (left_is x more a i₀ k₀ p);
    }

    -- the candidate is accepted
    module _ (f₁ : Flow) (sf : Spent (17 * pairs m) f f₁) (below : candidate s (take m n.words) < limit s) where
      abbrev y' : List ℕ
      y' = y ++ coefficient s (candidate s group) ∷ []

      abbrev conversion : ℕ
      conversion = mask_words s * (m - 1) + (m + 1) * (33 * pairs m)

      pub accepted : {f' : Flow} → Spent (mask_words s * (m - 1) + (m + 1) * (33 * pairs m)) f₁ f' → Leads s m u ws y n f 1 (17 * pairs m + (mask_words s * (m - 1) + (m + 1) * (33 * pairs m))) (ws ++ take m n.words) (y ++ coefficient s (candidate s (take m n.words)) ∷ []) n' f'
      unfolding cost resume
      accepted sc = record {
        fits = fits_on (spent_then sf sc);
        goes = λ x more a i₀ k₀ p.
            let e1 = sf.enough in
            let e2 = sc.enough in
            let l = ap length sf.rest ∙ length-drop (17 * pairs m) f.words in
            let count = p.mask_count in
            let paid : k₀ + 17 * pairs m ≤ x.mask_count = omega arith in
            let paid2 : k₀ + 17 * pairs m + conversion ≤ x.mask_count = omega arith in
            let spent : k₀ + 17 * pairs m + conversion ≡ k₀ + (17 * pairs m + conversion) = add_assoc k₀ (17 * pairs m) conversion in
            let e = E x more a i₀ k₀ p in
            let go : (i k : ℕ) (l : List ℕ) → Run = λ i k l.
            choose (ltb i (2 * s.n)) (run e more a (ws ++ group) y' (i₀ + 1) k (whole m n'.words))
            (finish e more a (ws ++ group) (i₀ + 1) l (closed s u.key u.digest u.counter y') k λ k. run e (more - 1) (a + 1) [] [] (i₀ + 1) k (whole m n'.words)) in
            here x more a i₀ k₀ p
            ∙ consider-accepted e a (ws ++ group) (i₀ + 1) (left x more a i₀ k₀ p) (length y) (candidate s group) k₀ _ _ paid below
            ∙ charge-paid e a (ws ++ group) (i₀ + 1) (left x more a i₀ k₀ p) (Conversion (at s (length y))) (k₀ + 17 * pairs m) _ paid2
            ∙ ap₂ (λ (i : ℕ) (l : List ℕ). go i (k₀ + 17 * pairs m + conversion) l) (sym (length_push y (coefficient s (candidate s group)))) (left_is x more a i₀ k₀ p)
            ∙ ap (λ (k : ℕ). go (length y') k n'.words) spent;
      }

      pub short-of-conversion : {e : Mark} {f' : Flow} → Short (mask_words s * (m - 1) + (m + 1) * (33 * pairs m)) e f₁ f' → Stops s m u ws y (λ a. masks_ended (record { mark = e; attempt = a; step = Conversion (at s (length y)) })) n n' f f'
      unfolding cost
      short-of-conversion {e = e} sc = record {
        words = ws ++ group;
        fate = unfinished;
        seen = 1;
        extra = 0;
        spent = length f.words;
        few = pos;
        nonces = spent_as t (let z = mul-one m in omega arith);
        masks = spent_as (spent_then sf (all_taken sc)) (let l = ap length sf.rest ∙ length-drop (17 * pairs m) f.words in let h = sf.enough in omega arith);
        goes = λ x more a i₀ k₀ p.
            let e1 = sf.enough in
            let few = sc.few in
            let l = ap length sf.rest ∙ length-drop (17 * pairs m) f.words in
            let count = p.mask_count in
            let paid : k₀ + 17 * pairs m ≤ x.mask_count = omega arith in
            let short : x.mask_count < k₀ + 17 * pairs m + conversion = omega arith in
            let E = E x more a i₀ k₀ p in
            let last : (k : Mark) (j : ℕ) (l : List ℕ) → Run = λ k j l. stop E (masks_ended (record { mark = k; attempt = a; step = Conversion (at s (length y)) })) (ws ++ group) unfinished (i₀ + 1) 0 j l in
            here x more a i₀ k₀ p
            ∙ consider-accepted E a (ws ++ group) (i₀ + 1) (left x more a i₀ k₀ p) (length y) (candidate s group) k₀ _ _ paid below
            ∙ charge-short E a (ws ++ group) (i₀ + 1) (left x more a i₀ k₀ p) (Conversion (at s (length y))) (k₀ + 17 * pairs m) _ short
            ∙ ap (λ (k : Mark). last k x.mask_count (left x more a i₀ k₀ p)) (p.mask_mark ∙ sym sf.mark ∙ sym sc.why)
            ∙ ap₂ (λ (j : ℕ) (l : List ℕ). last e j l) count (left_is x more a i₀ k₀ p);
      }

  -- the same of all that was drawn in an attempt
  pub drawing-none : (n f : Flow) → Drawing s m u [] n n f f
  drawing-none n f = record { words = []; seen = 0; spent = 0; nonces = spent_as (spent_none n) (sym (mul-zero m)); masks = spent_none f; leads = leads-none [] [] n f }

  pub drawing-refused : {y : List ℕ} {n n₁ n₂ f f₁ f₂ : Flow} → length y < 2 * s.n → Drawing s m u y n n₁ f f₁ → Spent m n₁ n₂ → Spent (17 * pairs m) f₁ f₂ → limit s ≤ candidate s (take m n₁.words) → Drawing s m u y n n₂ f f₂
  drawing-refused {y = y} {n₁ = n₁} {n₂ = n₂} {f₁ = f₁} wants d t sf above = record {
    words = d.words ++ take m n₁.words;
    seen = d.seen + 1;
    spent = d.spent + 17 * pairs m;
    nonces = spent_as (spent_then d.nonces t) (let e = mul-add m d.seen 1 in let z = mul-one m in omega arith);
    masks = spent_then d.masks sf;
    leads = leads-then d.leads (refused d.words y n₁ n₂ f₁ wants t sf above);
  }

  pub drawing-accepted : {y : List ℕ} {n n₁ n₂ f f₁ f₂ f₃ : Flow} → length y < 2 * s.n → Drawing s m u y n n₁ f f₁ → Spent m n₁ n₂ → Spent (17 * pairs m) f₁ f₂ → candidate s (take m n₁.words) < limit s → Spent (mask_words s * (m - 1) + (m + 1) * (33 * pairs m)) f₂ f₃ → Drawing s m u (y ++ coefficient s (candidate s (take m n₁.words)) ∷ []) n n₂ f f₃
  drawing-accepted {y = y} {n₁ = n₁} {n₂ = n₂} {f₁ = f₁} {f₂ = f₂} wants d t sf below sc = record {
    words = d.words ++ take m n₁.words;
    seen = d.seen + 1;
    spent = d.spent + (17 * pairs m + (mask_words s * (m - 1) + (m + 1) * (33 * pairs m)));
    nonces = spent_as (spent_then d.nonces t) (let e = mul-add m d.seen 1 in let z = mul-one m in omega arith);
    masks = spent_then d.masks (spent_then sf sc);
    leads = leads-then d.leads (accepted d.words y n₁ n₂ f₁ wants t f₂ sf below sc);
  }

  pub drawing-stops : {y : List ℕ} {o : ℕ → Outcome} {n n₁ n₂ f f₁ f₂ : Flow} (d : Drawing s m u y n n₁ f f₁) → Stops s m u d.words y o n₁ n₂ f₁ f₂ → Stops s m u [] [] o n n₂ f f₂
  drawing-stops d q = stops-after d.nonces d.masks d.leads q
