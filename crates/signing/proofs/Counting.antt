-- What the meters of a signing tell.
use Rattle.std.proofs.Common.{◌≡◌, ℕ, ◌^◌, ◌<◌, ◌≤◌, List, length, Ok, Err, Result, sym, ap, ◌∙◌, arith, length-drop}
use Rattle.params.specs.Params.{Params}
use Rattle.words.specs.declared.Mark.{Mark}
use Rattle.words.specs.Flow.{Flow, metered}
use Rattle.words.specs.Spending.{Spent, Spends}
use Rattle.words.proofs.Meters.{metered-same, metered-spends, metered_count}
use Rattle.plain.specs.Run.{Run, counts_of}
use Rattle.signing.specs.declared.failure.Failure.{Failure}
use Rattle.signing.specs.declared.failure.Failure.TheVariants.{Halted, TriesFailed}
use Rattle.signing.specs.Signing.{EndsAs, attempts_begun}

pub begun_is : (s : Params) (tries : ℕ) (o : Result ℕ Failure) (bytes bytes' : List ℕ) (r : Run) → EndsAs s tries o bytes bytes' r → attempts_begun tries o ≡ length r.attempts
begun_is s tries (Ok attempts) bytes bytes' r h = sym h.begun
begun_is s tries (Err (Halted t)) bytes bytes' r h = sym h.2
begun_is s tries (Err TriesFailed) bytes bytes' r h = sym h.2

-- a spending seen through a meter: which source, what it is there, and what the meter counts
module _ (k a a' c' : ℕ) (f f' : Flow) (t : Spent k (metered a 0 f) (metered a' c' f')) where
  abbrev answer : Result (Unit {0}) Mark
  answer = Ok tt

  as_call : Spends k answer (metered a 0 f) (metered a' c' f') (λ _. Unit {0})
  as_call = record { by = (t, tt) }

  pub meter-same : a ≡ a'
  meter-same = metered-same a a' 0 c' f f' answer as_call

  pub meter-spent : Spent k f f'
  meter-spent = (metered-spends a a' 0 c' f f' answer as_call).by.0

  pub meter-count : c' < 2 ^ 64 → length f.words ≤ 2 ^ 40 → c' ≡ k
  meter-count h few =
      let e = metered_count a a' c' f f' answer as_call h few in
      let l = ap length meter-spent.rest ∙ length-drop k f.words in
      let n = meter-spent.enough in
      omega arith

pub counts_are : (r : Run) (a b c d : ℕ) → a ≡ length r.attempts → b ≡ r.seen → c ≡ r.drawn → d ≡ r.spent → record { attempts = a; candidates = b; nonces = c; masks = d } ≡ counts_of r
counts_are r a b c d ea eb ec ed = cc
