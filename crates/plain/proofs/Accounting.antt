-- A signing's accounts.
use Rattle.std.proofs.Common.{◌≡◌, ℕ, suc, ◌+◌, ◌-◌, ◌*◌, ◌<◌, ◌≤◌, Bool, true, false, cond, ltb, List, [], ◌∷◌, ◌++◌, map, length, sym, refl, ap, ◌∙◌, append_assoc, mul-one, mul-add, arith, length-append}
use Rattle.std.specs.List.{AllByRecursion}
use Rattle.std.proofs.ByRecursion.{All-push}
use Rattle.std.proofs.lemmas.List.{append-nil, length_push, map_push}
use Rattle.std.proofs.lemmas.Bool.{leb-true, leb-false, ltb-true, ltb-false}
use Rattle.params.specs.Params.{Params}
use Rattle.plain.specs.Nonces.{limit, whole, candidate, candidates, coefficient, nonces}
use Rattle.plain.specs.Run.{Setting, Run, Outcome, signed, nonces_ended, masks_ended, all_failed, Attempt, rejected, closed, run, setting, sign}
use Rattle.plain.specs.Laws.{words_of, own_nonces, ComesFrom, Rejected, Fates, NamesLast, SigningAccounts}
use Rattle.plain.proofs.Groups.{flat, Sized, flat_push, candidates_flat, whole-sized, cut-few, whole-and-cut}
use Rattle.plain.proofs.Runs.{Kept, run_keeps, with-one, made_of, Accepted, Wanting}

-- one candidate more makes one nonce more, or none
module _ (s : Params) where
  push-by : (b : Bool) (v : ℕ) (ys z : List ℕ) → cond b (v ∷ (ys ++ z)) (ys ++ z) ≡ cond b (v ∷ ys) ys ++ z
  push-by true v ys z = refl
  push-by false v ys z = refl

  nonces-push : (xs : List ℕ) (x : ℕ) → nonces s (xs ++ x ∷ []) ≡ nonces s xs ++ nonces s (x ∷ [])
  nonces-push [] x = refl
  nonces-push (v ∷ xs) x =
      let b = ltb v (limit s) in
      ap (λ (t : List ℕ). cond b (coefficient s v ∷ t) t) (nonces-push xs x) ∙ push-by b (coefficient s v) (nonces s xs) (nonces s (x ∷ []))

  nonces-one : (x : ℕ) → ltb x (limit s) ≡ true → nonces s (x ∷ []) ≡ coefficient s x ∷ []
  nonces-one x e = ap (λ (b : Bool). cond b (coefficient s x ∷ []) []) e

  nonces-none : (x : ℕ) → ltb x (limit s) ≡ false → nonces s (x ∷ []) ≡ []
  nonces-none x e = ap (λ (b : Bool). cond b (coefficient s x ∷ []) []) e

at_most_one : (b : Bool) (v : ℕ) → length (cond b (v ∷ []) []) ≤ 1
at_most_one true v = omega arith
at_most_one false v = omega arith

module _ (e : Setting) (some-n : 0 < e.set.n) (some-m : 0 < e.shares) (few : length e.cut < e.shares) where
  abbrev s : Params
  s = e.set

  abbrev m : ℕ
  m = e.shares

  -- the nonces that words make
  abbrev make : List ℕ → List ℕ
  make ws = nonces e.set (candidates e.set e.shares ws)

  abbrev Own : Attempt → Type 0
  Own t = ComesFrom e.set e.key e.digest e.counter (own_nonces e.set e.shares t) t.fate

  -- this attempt drew the groups hs, after so many words of the attempts before it
  record Drawn (before : ℕ) (ws y : List ℕ) (seen : ℕ) (gs : List (List ℕ)) : Type 0 where
    pub to-come : Sized e.shares gs
    pub hs : List (List ℕ)
    pub sized : Sized e.shares hs
    pub are : ws ≡ flat hs
    pub makes : y ≡ nonces e.set (map (candidate e.set) hs)
    pub room : length y < 2 * e.set.n
    pub count : e.shares * seen ≡ before + length ws

  -- what becomes of those words and of what follows
  record Sound-run (before : ℕ) (ws : List ℕ) (gs : List (List ℕ)) (r : Run) : Type 0 where
    pub tile : words_of r.attempts ++ r.left ≡ ws ++ (flat gs ++ e.cut)
    pub own : AllByRecursion Own r.attempts
    pub counted : r.drawn ≡ before + length (words_of r.attempts)

  module _ (before : ℕ) (ws y : List ℕ) (seen : ℕ) (g : List ℕ) (gs : List (List ℕ)) (d : Drawn before ws y seen (g ∷ gs)) where
    abbrev x : ℕ
    x = candidate e.set g

    next-flat : ws ++ g ≡ flat (d.hs ++ g ∷ [])
    next-flat = ap (λ (t : List ℕ). t ++ g) d.are ∙ sym (flat_push d.hs g)

    next-sized : Sized e.shares (d.hs ++ g ∷ [])
    next-sized = All-push (λ h. length h ≡ m) d.hs g d.sized d.to-come.0

    next-nonces : nonces e.set (map (candidate e.set) (d.hs ++ g ∷ [])) ≡ y ++ nonces e.set (candidate e.set g ∷ [])
    next-nonces = ap (nonces s) (map_push (candidate s) d.hs g) ∙ nonces-push s (map (candidate s) d.hs) x ∙ ap (λ (t : List ℕ). t ++ nonces s (x ∷ [])) (sym d.makes)

    next-made : make (ws ++ g) ≡ y ++ nonces e.set (candidate e.set g ∷ [])
    next-made =
        ap make (next-flat ∙ sym (append-nil (flat (d.hs ++ g ∷ []))))
        ∙ ap (nonces s) (candidates_flat s m (d.hs ++ g ∷ []) [] some-m next-sized some-m)
        ∙ next-nonces

    next-count : e.shares * (seen + 1) ≡ before + length (ws ++ g)
    next-count =
        let a = mul-add m seen 1 in
        let b = mul-one m in
        let l = length-append ws g in
        let c = d.count in
        let h = d.to-come.0 in
        omega arith

    next-rest : (ws ++ g) ++ (flat gs ++ e.cut) ≡ ws ++ (flat (g ∷ gs) ++ e.cut)
    next-rest = append_assoc ws g (flat gs ++ e.cut) ∙ ap (λ (t : List ℕ). ws ++ t) (sym (append_assoc g (flat gs) e.cut))

    stop-tile : ((ws ++ g) ++ []) ++ (flat gs ++ e.cut) ≡ ws ++ (flat (g ∷ gs) ++ e.cut)
    stop-tile = ap (λ (t : List ℕ). t ++ (flat gs ++ e.cut)) (append-nil (ws ++ g)) ∙ next-rest

    stop-count : e.shares * (seen + 1) + 0 ≡ before + length ((ws ++ g) ++ [])
    stop-count = let c = next-count in let l = ap length (append-nil (ws ++ g)) in omega arith

    at_most : length (make (ws ++ g)) ≤ 2 * e.set.n
    at_most =
        let l = ap length next-made ∙ length-append y (nonces s (x ∷ [])) in
        let o = at_most_one (ltb x (limit s)) (coefficient s x) in
        let h = d.room in
        omega arith

    after-refused : Accepted e g false → Drawn before (ws ++ g) y (seen + 1) gs
    after-refused t = record {
      to-come = d.to-come.1;
      hs = d.hs ++ g ∷ [];
      sized = next-sized;
      are = next-flat;
      makes = sym (next-nonces ∙ ap (λ (u : List ℕ). y ++ u) (nonces-none s x t) ∙ append-nil y);
      room = d.room;
      count = next-count;
    }

    after-accepted : Accepted e g true → Wanting e y true → Drawn before (ws ++ g) (with-one e y g) (seen + 1) gs
    after-accepted t l = record {
      to-come = d.to-come.1;
      hs = d.hs ++ g ∷ [];
      sized = next-sized;
      are = next-flat;
      makes = sym (next-nonces ∙ ap (λ (u : List ℕ). y ++ u) (nonces-one s x t));
      room = let lt = ltb-true (length y + 1) (2 * s.n) l in let p = length_push y (coefficient s x) in omega arith;
      count = next-count;
    }

    -- the next attempt begins
    afresh : Drawn (before + length (ws ++ g)) [] [] (seen + 1) gs
    afresh = record { to-come = d.to-come.1; hs = []; sized = tt; are = refl; makes = refl; room = omega arith; count = let c = next-count in omega arith }

    further : (r : Run) → Sound-run before (ws ++ g) gs r → Sound-run before ws (g ∷ gs) r
    further r k = record { tile = k.tile ∙ next-rest; own = k.own; counted = k.counted }

    -- with the last nonce
    module _ (t : Accepted e g true) (l : Wanting e y false) where
      last_made : make (ws ++ g) ≡ with-one e y g
      last_made = next-made ∙ ap (λ (u : List ℕ). y ++ u) (nonces-one s x t)

      last-long : length (make (ws ++ g)) ≡ 2 * e.set.n
      last-long =
          let h = d.room in
          let le = ltb-false (length y + 1) (2 * s.n) l in
          let long = ap length last_made ∙ length_push y (coefficient s x) in
          omega arith

      last-closed : made_of e y g ≡ closed e.set e.key e.digest e.counter (make (ws ++ g))
      last-closed = ap (closed s e.key e.digest e.counter) (sym last_made)

  sound-runs : Kept e (λ more a ws y seen gs r. (before : ℕ) → Drawn before ws y seen gs → Sound-run before ws gs r)
  sound-runs = record {
    ended = λ more a ws y seen spent h before d. record {
      tile = append-nil ((ws ++ e.cut) ++ []) ∙ append-nil (ws ++ e.cut);
      own = (
        let q : make (ws ++ e.cut) ≡ y = ap (λ (t : List ℕ). make (t ++ e.cut)) d.are ∙ ap (nonces s) (candidates_flat s m d.hs e.cut some-m d.sized few) ∙ sym d.makes in
            let l = ap length q in
            let h = d.room in
            let le : length (make (ws ++ e.cut)) ≤ 2 * s.n = omega arith in
            le,
        tt,
      );
      counted = let c = d.count in let l = ap length (append-nil (ws ++ e.cut)) ∙ length-append ws e.cut in omega arith;
    };
    short = λ more a ws y seen step g gs before d. record { tile = stop-tile before ws y seen g gs d; own = (at_most before ws y seen g gs d, tt); counted = stop-count before ws y seen g gs d };
    refused = λ more a ws y seen g gs r t q before d. further before ws y seen g gs d r (q before (after-refused before ws y seen g gs d t));
    accepted = λ more a ws y seen g gs r t l q before d. further before ws y seen g gs d r (q before (after-accepted before ws y seen g gs d t l));
    won = λ more a ws y seen spent g gs h t l ok before d. record {
      tile = stop-tile before ws y seen g gs d;
      own = ((last-long before ws y seen g gs d t l, last-closed before ws y seen g gs d t l, ok), tt);
      counted = stop-count before ws y seen g gs d;
    };
    failed = λ more a ws y seen spent g gs h t l ok none before d. record {
      tile = stop-tile before ws y seen g gs d;
      own = ((last-long before ws y seen g gs d t l, last-closed before ws y seen g gs d t l, ok), tt);
      counted = stop-count before ws y seen g gs d;
    };
    again = λ more a ws y seen g gs r t l ok more-to-come q before d.
        let k = q (before + length (ws ++ g)) (afresh before ws y seen g gs d) in
        record {
          tile = append_assoc (ws ++ g) (words_of r.attempts) r.left ∙ ap (λ (u : List ℕ). (ws ++ g) ++ u) k.tile ∙ next-rest before ws y seen g gs d;
          own = ((last-long before ws y seen g gs d t l, last-closed before ws y seen g gs d t l, ok), k.own);
          counted = let c = k.counted in let l = length-append (ws ++ g) (words_of r.attempts) in omega arith;
        };
  }

-- the attempts' fates and their number, and the mask words
after_one : (o : Outcome) (t : Attempt) (more : List Attempt) → Rejected t → Fates o more → Fates o (t ∷ more)
after_one o t [] q f = absurd f
after_one o t (u ∷ more) q f = (q, f)

-- the last attempt's number, where attempt a was the first of these and could be followed by so many
abbrev Numbers : (more a : ℕ) → Outcome → ℕ → Type 0
Numbers more a (signed r) attempts = Unit {0}
Numbers more a (nonces_ended f) attempts = f.attempt + 1 ≡ a + attempts
Numbers more a (masks_ended f) attempts = f.attempt + 1 ≡ a + attempts
Numbers more a all_failed attempts = attempts ≡ more + 1

one_later : (more a : ℕ) (o : Outcome) (k : ℕ) → 0 < more → Numbers (more - 1) (a + 1) o k → Numbers more a o (suc k)
one_later more a (signed r) k some h = tt
one_later more a (nonces_ended f) k some h = omega arith
one_later more a (masks_ended f) k some h = omega arith
one_later more a all_failed k some h = omega arith

record Begun (e : Setting) (more a : ℕ) (r : Run) : Type 0 where
  pub fates : Fates r.outcome r.attempts
  pub tried : length r.attempts ≤ more + 1
  pub numbers : Numbers more a r.outcome (length r.attempts)
  pub afforded : r.spent ≤ e.mask_count

begins : {e : Setting} → Kept e (λ more a ws y seen gs r. Begun e more a r)
begins {e = e} = record {
  ended = λ more a ws y seen spent h. record { fates = refl; tried = omega arith; numbers = refl; afforded = h };
  short = λ more a ws y seen step g gs. record { fates = refl; tried = omega arith; numbers = refl; afforded = omega arith };
  refused = λ more a ws y seen g gs r t q. q;
  accepted = λ more a ws y seen g gs r t l q. q;
  won = λ more a ws y seen spent g gs h t l ok. record { fates = refl; tried = omega arith; numbers = tt; afforded = h };
  failed = λ more a ws y seen spent g gs h t l ok none. record {
    fates = (made_of e y g, refl);
    tried = omega arith;
    numbers = let z = leb-true more 0 none in omega arith;
    afforded = h;
  };
  again = λ more a ws y seen g gs r t l ok some q.
      let lt = leb-false more 0 some in
      let k = q.tried in
      record {
        fates = after_one r.outcome (record { words = ws ++ g; fate = rejected (made_of e y g) }) r.attempts (made_of e y g, refl) q.fates;
        tried = omega arith;
        numbers = one_later more a r.outcome (length r.attempts) lt q.numbers;
        afforded = q.afforded;
      };
}

names : (tries : ℕ) (o : Outcome) (k : ℕ) → 0 < tries → Numbers (tries - 1) 1 o k → NamesLast tries o k
names tries (signed r) k some h = tt
names tries (nonces_ended f) k some h = omega arith
names tries (masks_ended f) k some h = omega arith
names tries all_failed k some h = omega arith

pub signing_accounts : SigningAccounts
unfolding sign
signing_accounts s sound key m some-m digest counter tries some_tries n f =
    let e = setting s key m digest counter n f in
    let ws = n.words in
    let r = run e (tries - 1) 1 [] [] 0 0 (whole m ws) in
    let some-n : 0 < s.n = omega (arith, sound.n_least) in
    let few = cut-few m ws some-m in
    let v : Sound-run e some-n some-m few 0 [] (whole m ws) r =
    run_keeps (sound-runs e some-n some-m few) (tries - 1) 1 [] [] 0 0 (omega arith) (whole m ws) 0
    (record { to-come = whole-sized m ws; hs = []; sized = tt; are = refl; makes = refl; room = omega arith; count = omega arith }) in
    let b : Begun e (tries - 1) 1 r = run_keeps begins (tries - 1) 1 [] [] 0 0 (omega arith) (whole m ws) in
    record {
      in_order = sym (v.tile ∙ whole-and-cut m ws);
      counted = let c = v.counted in omega arith;
      own = v.own;
      fates = b.fates;
      tried = let t = b.tried in omega arith;
      named = names tries r.outcome (length r.attempts) some_tries b.numbers;
      afforded = b.afforded;
    }
