-- Two signings on the same candidates.
use Rattle.std.proofs.Common.{◌≡◌, ℕ, suc, ◌+◌, ◌-◌, ◌*◌, ◌<◌, Bool, true, false, cond, ltb, leb, List, [], ◌∷◌, ◌++◌, map, length, sym, refl, ap, ◌∙◌, ap₂, arith}
use Rattle.std.proofs.lemmas.Bool.{both_ways}
use Rattle.params.specs.Params.{Params}
use Rattle.words.specs.declared.Mark.{Mark}
use Rattle.words.specs.Flow.{Flow}
use Rattle.refusal.specs.declared.fault.Step.{Step}
use Rattle.refusal.specs.declared.fault.Step.TheVariants.{Candidate, Conversion, Commit, Check, Open}
use Rattle.record.specs.Layout.{Content}
use Rattle.plain.specs.Nonces.{limit, whole, cut_short, candidate, candidates, coefficient}
use Rattle.plain.specs.Run.{Key, Setting, Run, signed, nonces_ended, at, charge, choose, consider, finish, closed, passes, run, setting, sign}
use Rattle.plain.specs.Laws.{short_of_masks, Agree, SigningsAlike}
use Rattle.plain.proofs.Groups.{flat, Sized, candidates_flat, candidates_none, whole-sized, cut-few}
use Rattle.plain.proofs.Paths.{price, short-at}

module _ (s : Params) (key : Key) (m m' : ℕ) (some : 0 < m) (some' : 0 < m') where
  abbrev Alike : Run → Run → Type 0
  Alike r r' = short_of_masks r.outcome ≡ false → short_of_masks r'.outcome ≡ false → Agree s m m' r r'

  -- two ways of each, the second of each short of masks
  pay-by : (b b' : Bool) (x y x' y' : Run) → short_of_masks y.outcome ≡ true → short_of_masks y'.outcome ≡ true → Alike x x' → Alike (cond b x y) (cond b' x' y')
  pay-by true true x y x' y' p p' a = a
  pay-by true false x y x' y' p p' a = λ h h'. absurd (both_ways (short_of_masks y'.outcome) h' p')
  pay-by false b' x y x' y' p p' a = λ h h'. absurd (both_ways (short_of_masks y.outcome) h p)

  choose-alike : (b b' : Bool) (x y x' y' : Run) → b ≡ b' → Alike x x' → Alike y y' → Alike (choose b x y) (choose b' x' y')
  unfolding choose
  choose-alike true true x y x' y' e p q = p
  choose-alike true false x y x' y' e p q = absurd (both_ways true e refl)
  choose-alike false true x y x' y' e p q = absurd (both_ways true (sym e) refl)
  choose-alike false false x y x' y' e p q = q

  -- two settings of the same set, in attempt a with so many whole candidates seen
  module _ (e e' : Setting) (same_set : e.set ≡ e'.set) (a : ℕ) (ws ws' : List ℕ) (seen : ℕ) (left left' : List ℕ) where
    charge-alike : (step step' : Step) (spent spent' : ℕ) (next next' : ℕ → Run) → ((u u' : ℕ) → Alike (next u) (next' u')) → Alike (charge e step a ws seen left spent next) (charge e' step' a ws' seen left' spent' next')
    unfolding charge
    charge-alike step step' spent spent' next next' f =
        let c = spent + price e step in
        let c' = spent' + price e' step' in
        pay-by (leb c e.mask_count) (leb c' e'.mask_count) (next c) (short-at e step a ws seen left) (next' c') (short-at e' step' a ws' seen left') refl refl (f c c')

    consider-alike : (i i' x x' spent spent' : ℕ) (refuse accept refuse' accept' : ℕ → Run) →
        x ≡ x' → ((u u' : ℕ) → Alike (refuse u) (refuse' u')) → ((u u' : ℕ) → Alike (accept u) (accept' u')) →
        Alike (consider e a i ws seen left x spent refuse accept) (consider e' a i' ws' seen left' x' spent' refuse' accept')
    unfolding consider
    consider-alike i i' x x' spent spent' refuse accept refuse' accept' ex p q =
        charge-alike (Candidate (at e.set i)) (Candidate (at e'.set i')) spent spent' _ _ (λ u u'.
        choose-alike _ _ _ _ _ _ (ap₂ (λ (v : ℕ) (t : Params). ltb v (limit t)) ex same_set)
        (charge-alike (Conversion (at e.set i)) (Conversion (at e'.set i')) u u' accept accept' q)
        (p u u'))

    finish-alike : (more : ℕ) (r r' : Content) (spent spent' : ℕ) (again again' : ℕ → Run) →
        r ≡ r' → candidates s m left ≡ candidates s m' left' → ((u u' : ℕ) → Alike (again u) (again' u')) →
        Alike (finish e more a ws seen left r spent again) (finish e' more a ws' seen left' r' spent' again')
    unfolding finish
    finish-alike more r r' spent spent' again again' er el p =
        charge-alike Commit Commit spent spent' _ _ (λ u u'.
        charge-alike Check Check u u' _ _ (λ u u'.
        choose-alike _ _ _ _ _ _ (ap₂ passes same_set er)
        (charge-alike Open Open u u' _ _ (λ v v' h h'. record { outcome = ap signed er; attempts = refl; seen = refl; left = el }))
        (choose-alike (leb more 0) (leb more 0) _ _ _ _ refl
        (λ h h'. record { outcome = refl; attempts = refl; seen = refl; left = el })
        (λ h h'. let k = p u u' h h' in record { outcome = k.outcome; attempts = ap suc k.attempts; seen = k.seen; left = k.left }))))

  module _ (digest : List ℕ) (counter counter' : ℕ) (same-counter : counter ≡ counter') (nonces masks nonces' masks' : Flow) (same-mark : nonces.mark ≡ nonces'.mark) where
    abbrev one : Setting
    one = setting s key m digest counter nonces masks

    abbrev other : Setting
    other = setting s key m' digest counter' nonces' masks'

    runs-alike : (gs gs' : List (List ℕ)) → Sized m gs → Sized m' gs' → map (candidate s) gs ≡ map (candidate s) gs' →
        (more a : ℕ) (ws ws' y y' : List ℕ) → y ≡ y' → (seen spent spent' : ℕ) → Alike (run one more a ws y seen spent gs) (run other more a ws' y' seen spent' gs')
    runs-alike [] [] z z' e more a ws ws' y y' ey seen spent spent' = λ h h'. record {
      outcome = ap₂ (λ (k : Mark) (i : ℕ). nonces_ended (record { mark = k; attempt = a; step = Candidate (at s i) })) same-mark (ap length ey);
      attempts = refl;
      seen = refl;
      left = candidates_none s m some ∙ sym (candidates_none s m' some');
    }
    runs-alike [] (g' ∷ gs') z z' e more a ws ws' y y' ey seen spent spent' = let q : ◌≡◌ {A = ℕ} 0 1 = cc in absurd (omega arith)
    runs-alike (g ∷ gs) [] z z' e more a ws ws' y y' ey seen spent spent' = let q : ◌≡◌ {A = ℕ} 0 1 = cc in absurd (omega arith)
    runs-alike (g ∷ gs) (g' ∷ gs') z z' e more a ws ws' y y' ey seen spent spent' =
        let cut = cut_short m nonces.words in
        let cut' = cut_short m' nonces'.words in
        let ex : candidate s g ≡ candidate s g' = cc in
        let es : map (candidate s) gs ≡ map (candidate s) gs' = cc in
        let y1 = y ++ coefficient s (candidate s g) ∷ [] in
        let y1' = y' ++ coefficient s (candidate s g') ∷ [] in
        let ey1 : y1 ≡ y1' = ap₂ (λ (t : List ℕ) (x : ℕ). t ++ coefficient s x ∷ []) ey ex in
        let er : closed s key digest (counter + 1) y1 ≡ closed s key digest (counter' + 1) y1' = ap₂ (λ (k : ℕ) (t : List ℕ). closed s key digest (k + 1) t) same-counter ey1 in
        let left = candidates_flat s m gs cut some z.1 (cut-few m nonces.words some) ∙ es ∙ sym (candidates_flat s m' gs' cut' some' z'.1 (cut-few m' nonces'.words some')) in
        consider-alike one other refl a (ws ++ g) (ws' ++ g') (seen + 1) (flat gs ++ cut) (flat gs' ++ cut') (length y) (length y') (candidate s g) (candidate s g') spent spent' _ _ _ _ ex
        (λ u u'. runs-alike gs gs' z.1 z'.1 es more a (ws ++ g) (ws' ++ g') y y' ey (seen + 1) u u')
        (λ u u'. choose-alike _ _ _ _ _ _ (ap (λ (t : List ℕ). ltb (length t + 1) (2 * s.n)) ey)
        (runs-alike gs gs' z.1 z'.1 es more a (ws ++ g) (ws' ++ g') y1 y1' ey1 (seen + 1) u u')
        (finish-alike one other refl a (ws ++ g) (ws' ++ g') (seen + 1) (flat gs ++ cut) (flat gs' ++ cut') more _ _ u u' _ _ er left
        (λ v v'. runs-alike gs gs' z.1 z'.1 es (more - 1) (a + 1) [] [] [] [] refl (seen + 1) v v')))

    pub signs-alike : (tries : ℕ) → candidates s m nonces.words ≡ candidates s m' nonces'.words →
        short_of_masks (sign s key m digest counter tries nonces masks).outcome ≡ false → short_of_masks (sign s key m' digest counter' tries nonces' masks').outcome ≡ false →
        Agree s m m' (sign s key m digest counter tries nonces masks) (sign s key m' digest counter' tries nonces' masks')
    unfolding sign
    signs-alike tries e =
        let ws = nonces.words in
        let ws' = nonces'.words in
        runs-alike (whole m ws) (whole m' ws') (whole-sized m ws) (whole-sized m' ws') e (tries - 1) 1 [] [] [] [] refl 0 0 0

pub signings_alike : SigningsAlike
signings_alike s key m m' some some' digest counter tries nonces masks nonces' masks' e k =
    signs-alike s key m m' some some' digest counter counter refl nonces masks nonces' masks' k tries e
