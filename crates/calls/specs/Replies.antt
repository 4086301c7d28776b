-- One call on a card: what each kind of call does.
use Rattle.std.specs.Prelude.{◌≡◌, ℕ, ◌*◌, Bool, true, ◌&&◌, List, length, Err, ◌==◌}
use Rattle.params.specs.Params.{Params}
use Rattle.refusal.specs.Tests.{first_hit}
use Rattle.record.specs.Layout.{size}
use Rattle.words.specs.Flow.{Flow}
use Rattle.plain.specs.Run.{counts_of}
use Rattle.keys.specs.Remask.{key_tests}
use Rattle.card.specs.Remask.{RemaskBy}
use Rattle.card.specs.Sign.{SignBy, answer_of, record_after, sign_tests}
use Rattle.life.specs.declared.call.Call.{Call}
use Rattle.life.specs.declared.call.Call.TheVariants.{Sign, Remask, Report}
use Rattle.life.specs.Life.{Answer, sign_refused, ran, remasked, reported}
use Rattle.calls.specs.declared.reply.Reply.{Reply}
use Rattle.calls.specs.declared.reply.Reply.TheVariants.{Signed, Remasked, Reported}

-- the areas that a call is lent: key, public, work and record
pub record Areas : Type 0 where
  pub key : List ℕ
  pub public : List ℕ
  pub work : List ℕ
  pub bytes : List ℕ

abbrev pub areas : (key public work bytes : List ℕ) → Areas
areas key public work bytes = record { key = key; public = public; work = work; bytes = bytes }

-- every area that the call looks at has its size
abbrev pub fit : Params → ℕ → Call → Areas → Bool
fit s m (Sign digest tries) x = length x.public == 2 * s.n && (length x.key == 2 * m * s.n && (length x.work == 6 * m * s.n && length x.bytes == size s))
fit s m Remask x = length x.key == 2 * m * s.n
fit s m Report x = true

-- what a call does, by the definitions of the three calls: the counter, the areas and both sources before and after
abbrev pub Performs : Params → (m : ℕ) → Call → Reply → (counter counter' : ℕ) (x x' : Areas) (n n' f f' : Flow) → Type 0
Performs s m (Sign digest tries) (Signed r) counter counter' x x' n n' f f' =
    SignBy s m digest tries x.key x.public (first_hit (sign_tests s m counter tries x.key x.public x.work x.bytes)) r counter counter' x.work x'.work x.bytes x'.bytes n n' f f'
    × (x'.key ≡ x.key)
Performs s m (Sign digest tries) (Remasked r) counter counter' x x' n n' f f' = ⊥
Performs s m (Sign digest tries) (Reported r) counter counter' x x' n n' f f' = ⊥
Performs s m Remask (Signed r) counter counter' x x' n n' f f' = ⊥
Performs s m Remask (Remasked r) counter counter' x x' n n' f f' =
    RemaskBy s m (first_hit (key_tests s m x.key)) r x.key x'.key f f' × (counter' ≡ counter) × (x'.work ≡ x.work) × (x'.bytes ≡ x.bytes) × (n' ≡ n)
Performs s m Remask (Reported r) counter counter' x x' n n' f f' = ⊥
Performs s m Report (Signed r) counter counter' x x' n n' f f' = ⊥
Performs s m Report (Remasked r) counter counter' x x' n n' f f' = ⊥
Performs s m Report (Reported r) counter counter' x x' n n' f f' =
    (r ≡ record { counter = counter; shares = m }) × (counter' ≡ counter) × (x'.key ≡ x.key) × (x'.work ≡ x.work) × (x'.bytes ≡ x.bytes) × (n' ≡ n) × (f' ≡ f)

-- how an answer of a life is told
abbrev pub reply_of : Answer → Reply
reply_of (sign_refused e) = Signed (Err e)
reply_of (ran r) = Signed (answer_of r.outcome (counts_of r))
reply_of (remasked k) = Remasked k
reply_of (reported counter shares) = Reported (record { counter = counter; shares = shares })

-- what the record area holds after an answer
abbrev pub bytes_after : Params → Answer → List ℕ → List ℕ
bytes_after s (sign_refused e) bytes = bytes
bytes_after s (ran r) bytes = record_after s r.outcome bytes
bytes_after s (remasked k) bytes = bytes
bytes_after s (reported counter shares) bytes = bytes
