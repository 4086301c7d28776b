-- A candidate for a nonce coefficient.
use Rattle.std.specs.Prelude.{◌≡◌, ℕ, ◌*◌, ◌%◌, ◌^◌, ◌<◌, ◌≤◌, List, map, take, Some, None, Ok, Err, Option, Result}
use Rattle.words.specs.Flow.{Flow}
use Rattle.words.specs.declared.Mark.{Mark}
use Rattle.words.specs.Spending.{Spent, Short}
use Rattle.shares.specs.Groups.{word_rule, word_of}
use Rattle.shares.specs.Refresh.{pairs, rows, refreshed}
use Rattle.steps.specs.declared.Ended.{Ended}
use Rattle.steps.specs.declared.Ended.TheVariants.{Nonces, Masks}

-- the candidate that the first m nonce words hold
abbrev pub candidate_of : ℕ → ℕ → List ℕ → ℕ
candidate_of bits m ws = word_of (take m ws) % 2 ^ bits

-- a candidate below the limit is accepted, any other refused
abbrev pub Judged : ℕ → ℕ → Option (List ℕ) → Type 0
Judged limit x (Some z) = (x < limit) × (word_of z ≡ x)
Judged limit x None = limit ≤ x

-- the shares of an accepted candidate are the shares xs, refreshed with the first mask words
abbrev pub Renewed : {E : Type 0} → ℕ → List ℕ → Result (Option (List ℕ)) E → Flow → Type 0
Renewed m xs (Ok (Some z)) f = z ≡ refreshed word_rule (rows 0 m) f.words xs
Renewed m xs (Ok None) f = Unit {0}
Renewed m xs (Err e) f = Unit {0}

-- the ways in which a try can end; nonces are drawn first
abbrev pub TriedBy : ℕ → ℕ → ℕ → Result (Option (List ℕ)) (Ended Mark) → Flow → Flow → Flow → Flow → Type 0
TriedBy m bits limit (Ok o) n n' f f' = Spent m n n' × Spent (17 * pairs m) f f' × Judged limit (candidate_of bits m n.words) o
TriedBy m bits limit (Err (Nonces e)) n n' f f' = Short m e n n' × (f' ≡ f)
TriedBy m bits limit (Err (Masks e)) n n' f f' = Spent m n n' × Short (17 * pairs m) e f f'

-- one candidate: m nonce words, then 17 mask words for each pair of shares
pub record Tried (m bits limit : ℕ) (r : Result (Option (List ℕ)) (Ended Mark)) (n n' f f' : Flow) : Type 0 where
  pub by : TriedBy m bits limit r n n' f f'
  pub shares : Renewed m (map (λ w. w % 2 ^ bits) (take m n.words)) r f
