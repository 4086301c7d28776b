-- Plain signing: what one signing does, on the key and the nonces themselves, with each step charged its words.
use Rattle.std.specs.Prelude.{ℕ, ◌+◌, ◌-◌, ◌*◌, ◌/◌, ◌%◌, Bool, cond, List, [], ◌∷◌, ◌++◌, map, length, take, drop, nat_le, nat_lt}
use Rattle.std.specs.List.{flat_map}
use Rattle.params.specs.Params.{Params}
use Rattle.words.specs.declared.Mark.{Mark}
use Rattle.words.specs.Flow.{Flow}
use Rattle.refusal.specs.declared.fault.Coefficient.{Coefficient}
use Rattle.refusal.specs.declared.fault.Counts.{Counts}
use Rattle.refusal.specs.declared.fault.Fault.{Fault}
use Rattle.refusal.specs.declared.fault.Step.{Step}
use Rattle.refusal.specs.declared.fault.Step.TheVariants.{Candidate, Conversion, Commit, Check, Open}
use Rattle.ring.specs.Ring.{centre, plus, product}
use Rattle.record.specs.Layout.{Content}
use Rattle.record.specs.Reading.{all_near}
use Rattle.challenge.specs.Challenge.{challenge}
use Rattle.plain.specs.Nonces.{limit, whole, cut_short, candidate, coefficient}
use Rattle.plain.specs.Costs.{cost}

-- a key: the public polynomial a, and the secret ones s1 and s2
pub record Key : Type 0 where
  pub a : List ℕ
  pub s1 : List ℕ
  pub s2 : List ℕ

-- the record that the nonces y make, those of y1 and then those of y2: the challenge c of a·y1 + y2, and z = s·c + y
unfoldable pub closed : Params → Key → List ℕ → ℕ → List ℕ → Content
closed s key digest counter y =
    let p = s.p in
    let y1 = take s.n y in
    let y2 = drop s.n y in
    let c = challenge s (plus p (product p key.a y1) y2) digest counter in
    record {
      counter = counter;
      digest = digest;
      z = map (centre p) (plus p (product p key.s1 c) y1 ++ plus p (product p key.s2 c) y2);
      c = c;
    }

-- a record may be given away: no coefficient of z lies too far from 0
abbrev pub passes : Params → Content → Bool
passes s r = all_near s r.z

-- how a signing ends
pub data Outcome : Type 0 where
  signed : Content → Outcome
  nonces_ended masks_ended : Fault → Outcome
  all_failed : Outcome

-- what became of an attempt
pub data Fate : Type 0 where
  passed rejected : Content → Fate
  unfinished : Fate

-- an attempt: every nonce word that was drawn in it, and its fate
pub record Attempt : Type 0 where
  pub words : List ℕ
  pub fate : Fate

-- a signing: how it ends, its attempts, the whole candidates seen, the nonce and mask words drawn, and the nonce words left
pub record Run : Type 0 where
  pub outcome : Outcome
  pub attempts : List Attempt
  pub seen : ℕ
  pub drawn : ℕ
  pub spent : ℕ
  pub left : List ℕ

-- what it took: attempts begun, whole candidates, nonce words and mask words
abbrev pub counts_of : Run → Counts
counts_of r = record { attempts = length r.attempts; candidates = r.seen; nonces = r.drawn; masks = r.spent }

-- a rejected attempt, and the run that follows it
abbrev pub after_rejected : List ℕ → Content → Run → Run
after_rejected ws r next = record { outcome = next.outcome; attempts = record { words = ws; fate = rejected r } ∷ next.attempts; seen = next.seen; drawn = next.drawn; spent = next.spent; left = next.left }

-- the first run where the test holds, else the second
unfoldable pub choose : Bool → Run → Run → Run
choose b r r' = cond b r r'

-- the coefficient of y1 or y2 that is the i-th of both
abbrev pub at : Params → ℕ → Coefficient
at s i = record { polynomial = i / s.n + 1; index = i % s.n }

-- what stays the same over a signing: `counter` is that of the record to be made, and `cut` the nonce words behind the last whole group
pub record Setting : Type 0 where
  pub set : Params
  pub key : Key
  pub shares : ℕ
  pub digest : List ℕ
  pub counter : ℕ
  pub cut : List ℕ
  pub nonce_mark : Mark
  pub mask_mark : Mark
  pub mask_count : ℕ

module _ (e : Setting) where
  -- the run stops in an attempt that drew the words ws, `extra` of them in a group that was cut short
  abbrev pub stop : Outcome → List ℕ → Fate → (seen extra spent : ℕ) → (left : List ℕ) → Run
  stop o ws fate seen extra spent left = record { outcome = o; attempts = record { words = ws; fate = fate } ∷ []; seen = seen; drawn = e.shares * seen + extra; spent = spent; left = left }

  -- a step with its mask words; where there are too few, all are taken and the run stops
  unfoldable pub charge : Step → (attempt : ℕ) → (ws : List ℕ) (seen : ℕ) (left : List ℕ) (spent : ℕ) → (ℕ → Run) → Run
  charge step a ws seen left spent next =
      cond (nat_le (spent + cost e.set e.shares step) e.mask_count)
      (next (spent + cost e.set e.shares step))
      (stop (masks_ended (record { mark = e.mask_mark; attempt = a; step = step })) ws unfinished seen 0 e.mask_count left)

  -- steps 1 and 2: the candidate x for the i-th coefficient is refused, or accepted and converted
  unfoldable pub consider : (a i : ℕ) (ws : List ℕ) (seen : ℕ) (left : List ℕ) (x spent : ℕ) → (refuse accept : ℕ → Run) → Run
  consider a i ws seen left x spent refuse accept =
      charge (Candidate (at e.set i)) a ws seen left spent λ spent.
      choose (nat_lt x (limit e.set)) (charge (Conversion (at e.set i)) a ws seen left spent accept) (refuse spent)

  -- steps 3 to 6: the attempt's record r passes and is opened, or it is rejected and the next attempt begins, if one is left
  unfoldable pub finish : (more a : ℕ) (ws : List ℕ) (seen : ℕ) (left : List ℕ) (r : Content) (spent : ℕ) → (again : ℕ → Run) → Run
  finish more a ws seen left r spent again =
      charge Commit a ws seen left spent λ spent.
      charge Check a ws seen left spent λ spent.
      choose (passes e.set r)
      (charge Open a ws seen left spent λ spent. stop (signed r) ws (passed r) seen 0 spent left)
      (choose (nat_le more 0) (stop all_failed ws (rejected r) seen 0 spent left) (after_rejected ws r (again spent)))

  -- attempt a, with so many more to follow, has drawn ws and made the nonces y of them; the whole groups of words still to come
  abbrev pub run : (more a : ℕ) (ws y : List ℕ) (seen spent : ℕ) → List (List ℕ) → Run
  run more a ws y seen spent [] =
      stop (nonces_ended (record { mark = e.nonce_mark; attempt = a; step = Candidate (at e.set (length y)) })) (ws ++ e.cut) unfinished seen (length e.cut) spent []
  run more a ws y seen spent (g ∷ gs) =
      let y' = y ++ coefficient e.set (candidate e.set g) ∷ [] in
      let left = flat_map (λ (h : List ℕ). h) gs ++ e.cut in
      consider a (length y) (ws ++ g) (seen + 1) left (candidate e.set g) spent
      (λ spent. run more a (ws ++ g) y (seen + 1) spent gs)
      (λ spent. choose (nat_lt (length y + 1) (2 * e.set.n))
      (run more a (ws ++ g) y' (seen + 1) spent gs)
      (finish more a (ws ++ g) (seen + 1) left (closed e.set e.key e.digest e.counter y') spent λ spent.
      run (more - 1) (a + 1) [] [] (seen + 1) spent gs))

-- what a signing of m shares, after a record with this counter, has to go by
abbrev pub setting : Params → Key → ℕ → (digest : List ℕ) (counter : ℕ) (nonces masks : Flow) → Setting
setting s key m digest counter n f = record {
  set = s;
  key = key;
  shares = m;
  digest = digest;
  counter = counter + 1;
  cut = cut_short m n.words;
  nonce_mark = n.mark;
  mask_mark = f.mark;
  mask_count = length f.words;
}

-- a signing with so many tries
unfoldable pub sign : Params → Key → ℕ → (digest : List ℕ) (counter tries : ℕ) (nonces masks : Flow) → Run
sign s key m digest counter tries n f = run (setting s key m digest counter n f) (tries - 1) 1 [] [] 0 0 (whole m n.words)
