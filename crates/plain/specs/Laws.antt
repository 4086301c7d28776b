-- What holds of every signing: it accounts for each nonce word that it drew and each attempt that it tells of, and its share count shows in
-- nothing but its word counts and the end of its masks.
use Rattle.std.specs.Prelude.{◌≡◌, ℕ, ◌+◌, ◌*◌, ◌<◌, ◌≤◌, Bool, true, false, List, [], ◌∷◌, ◌++◌, length}
use Rattle.std.specs.List.{flat_map, AllByRecursion}
use Rattle.params.specs.Params.{Params, Sound}
use Rattle.words.specs.Flow.{Flow}
use Rattle.record.specs.Layout.{Content}
use Rattle.plain.specs.Nonces.{limit, bits, LeastBits, candidates, nonces}
use Rattle.plain.specs.Run.{Key, Outcome, signed, nonces_ended, masks_ended, all_failed, Fate, passed, rejected, unfinished, Attempt, Run, closed, passes, sign}

-- a candidate has as few bits as can hold the limit
abbrev pub CandidateBits : Type 0
CandidateBits = (s : Params) → Sound s → LeastBits (limit s) (bits s)

-- the words of attempts, one attempt after another
abbrev pub words_of : List Attempt → List ℕ
words_of attempts = flat_map (λ (t : Attempt). t.words) attempts

-- the nonces in an attempt's words: the coefficients that the accepted candidates among its whole groups stand for
abbrev pub own_nonces : Params → ℕ → Attempt → List ℕ
own_nonces s m t = nonces s (candidates s m t.words)

-- an attempt's fate comes from nonces y: it made its record of 2n of them, for this digest and counter, and the check told; or it came to no record
abbrev pub ComesFrom : Params → Key → (digest : List ℕ) (counter : ℕ) → (y : List ℕ) → Fate → Type 0
ComesFrom s key digest counter y (passed r) = (length y ≡ 2 * s.n) × (r ≡ closed s key digest counter y) × (passes s r ≡ true)
ComesFrom s key digest counter y (rejected r) = (length y ≡ 2 * s.n) × (r ≡ closed s key digest counter y) × (passes s r ≡ false)
ComesFrom s key digest counter y unfinished = length y ≤ 2 * s.n

-- an attempt that was rejected
abbrev pub Rejected : Attempt → Type 0
Rejected t = (r : Content) × (t.fate ≡ rejected r)

-- what the last attempt came to, by how the signing ends
abbrev pub Ends : Outcome → Attempt → Type 0
Ends (signed r) t = t.fate ≡ passed r
Ends (nonces_ended f) t = t.fate ≡ unfinished
Ends (masks_ended f) t = t.fate ≡ unfinished
Ends all_failed t = Rejected t

-- there is a last attempt, and every one before it was rejected
abbrev pub Fates : Outcome → List Attempt → Type 0
Fates o [] = ⊥
Fates o (t ∷ []) = Ends o t
Fates o (t ∷ u ∷ more) = Rejected t × Fates o (u ∷ more)

-- the attempt that a fault names is the last; where every try failed, there were as many attempts as tries
abbrev pub NamesLast : (tries : ℕ) → Outcome → (attempts : ℕ) → Type 0
NamesLast tries (signed r) attempts = Unit {0}
NamesLast tries (nonces_ended f) attempts = f.attempt ≡ attempts
NamesLast tries (masks_ended f) attempts = f.attempt ≡ attempts
NamesLast tries all_failed attempts = attempts ≡ tries

-- the accounts of a signing of m shares
pub record Accounts (s : Params) (key : Key) (m : ℕ) (digest : List ℕ) (counter tries : ℕ) (nonces masks : Flow) (r : Run) : Type 0 where
  pub in_order : nonces.words ≡ words_of r.attempts ++ r.left
  pub counted : r.drawn ≡ length (words_of r.attempts)
  pub own : AllByRecursion (λ (t : Attempt). ComesFrom s key digest (counter + 1) (own_nonces s m t) t.fate) r.attempts
  pub fates : Fates r.outcome r.attempts
  pub tried : length r.attempts ≤ tries
  pub named : NamesLast tries r.outcome (length r.attempts)
  pub afforded : r.spent ≤ length masks.words

-- every signing keeps them
abbrev pub SigningAccounts : Type 0
SigningAccounts =
    (s : Params) → Sound s → (key : Key) (m : ℕ) → 0 < m → (digest : List ℕ) (counter tries : ℕ) → 0 < tries → (nonces masks : Flow) →
    Accounts s key m digest counter tries nonces masks (sign s key m digest counter tries nonces masks)

-- a signing that ended for want of masks
abbrev pub short_of_masks : Outcome → Bool
short_of_masks (signed r) = false
short_of_masks (nonces_ended f) = false
short_of_masks (masks_ended f) = true
short_of_masks all_failed = false

-- a signing of m shares and one of m' shares end alike, in as many attempts and whole candidates, and leave the same candidates
pub record Agree (s : Params) (m m' : ℕ) (r r' : Run) : Type 0 where
  pub outcome : r.outcome ≡ r'.outcome
  pub attempts : length r.attempts ≡ length r'.attempts
  pub seen : r.seen ≡ r'.seen
  pub left : candidates s m r.left ≡ candidates s m' r'.left

-- so do any two with the same candidates and the same mark behind them, unless the masks of one end
abbrev pub SigningsAlike : Type 0
SigningsAlike =
    (s : Params) (key : Key) (m m' : ℕ) → 0 < m → 0 < m' → (digest : List ℕ) (counter tries : ℕ) → (nonces masks nonces' masks' : Flow) →
    candidates s m nonces.words ≡ candidates s m' nonces'.words → nonces.mark ≡ nonces'.mark →
    short_of_masks (sign s key m digest counter tries nonces masks).outcome ≡ false →
    short_of_masks (sign s key m' digest counter tries nonces' masks').outcome ≡ false →
    Agree s m m' (sign s key m digest counter tries nonces masks) (sign s key m' digest counter tries nonces' masks')
