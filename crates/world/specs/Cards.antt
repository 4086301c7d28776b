-- A card and what its calls are lent: what the lines of a scenario do to them.
use Rattle.std.specs.Prelude.{◌≡◌, ℕ, ◌*◌, ◌^◌, ◌<◌, List, [], replicate, ℤ, Some, None, Ok, Err, vec_items, vec_len, Option, Result, Vec}
use Rattle.std.specs.declared.alloc.Global.{Global}
use Rattle.params.specs.Params.{Params}
use Rattle.refusal.specs.Tests.{first_hit}
use Rattle.refusal.specs.declared.Refusal.{Refusal}
use Rattle.refusal.specs.declared.Refusal.TheVariants.{SourceRange}
use Rattle.record.specs.Layout.{size}
use Rattle.words.specs.Flow.{from}
use Rattle.words.specs.Generators.{stretched}
use Rattle.words.specs.Health.{Steady}
use Rattle.words.specs.Refusals.{Unfit}
use Rattle.words.specs.declared.Mark.TheVariants.{Spent}
use Rattle.feed.specs.Feed.{feed_flow}
use Rattle.feed.specs.declared.Feed.{Feed}
use Rattle.polys.specs.Area.{recombined}
use Rattle.keys.specs.Load.{load_tests}
use Rattle.card.specs.Load.{LoadBy}
use Rattle.calls.specs.Replies.{Areas, Performs, areas}
use Rattle.calls.specs.declared.reply.Reply.{Reply}
use Rattle.calls.specs.declared.reply.Reply.TheVariants.{Signed, Remasked, Reported}
use Rattle.life.specs.declared.call.Call.{Call}
use Rattle.card.specs.declared.state.Card.{Card}
use Rattle.card.specs.declared.state.Loaded.{Loaded}
use Rattle.script.specs.declared.command.Supply.{Supply}
use Rattle.script.specs.declared.command.Supply.TheVariants.{Tape, Generator, Health}
use Rattle.script.specs.declared.stream.Stream.{Stream}
use Rattle.script.specs.declared.stream.Stream.TheVariants.{Nonces, Masks}
use Rattle.answers.specs.Texts.{answer_of}
use Rattle.answers.specs.declared.answer.Answer.{Answer}
use Rattle.answers.specs.declared.answer.Answer.TheVariants as answers
use Rattle.world.specs.Areas.{lent}
use Rattle.world.specs.declared.card_state.CardState.{CardState}
use Rattle.world.specs.declared.card_state.Unfilled.{Unfilled}
use Rattle.world.specs.declared.card_state.Unfilled.TheVariants.{Refused, Memory}

-- at the start: one share, an empty secret, empty sources, no card, and areas of their sizes
pub record Fresh (s : Params) (c : CardState) : Type 0 where
  pub no_secret : vec_items c.secret ≡ []
  pub one_share : c.shares ≡ 1
  pub zeros : vec_items c.key ≡ replicate (2 * s.n) 0
  pub no_nonces : feed_flow c.nonces ≡ from [] Spent
  pub no_masks : feed_flow c.masks ≡ from [] Spent
  pub no_card : c.card ≡ None
  pub work_is : c.work ≡ 6 * s.n
  pub room_is : c.room ≡ size s

-- another share count: a key area of zeros, no card, areas of their sizes, and else as it was
pub record Reshared (s : Params) (m : ℕ) (c c' : CardState) : Type 0 where
  pub zeros : vec_items c'.key ≡ replicate (2 * m * s.n) 0
  pub rest : c' ≡ record { secret = c.secret; shares = m; key = c'.key; nonces = c.nonces; masks = c.masks; card = None; work = 6 * m * s.n; room = size s }

-- a source f that becomes f', as P says, where nothing is Bad; else it is refused and stays
abbrev pub Becomes : Type 0 → Result (Unit {0}) Refusal → Feed → Feed → Type 0 → Type 0
Becomes Bad (Ok u) f f' P = (Bad → ⊥) × P
Becomes Bad (Err e) f f' P = Bad × (e ≡ SourceRange) × (f' ≡ f)

-- what a source becomes: these words; so many words, stretched from a seed; what it was, under a health check
abbrev pub Supplies : Supply → Result (Unit {0}) Refusal → Feed → Feed → Type 0
Supplies (Tape words) told f f' = Becomes (2 ^ 40 < vec_len words) told f f' (feed_flow f' ≡ from (vec_items words) Spent)
Supplies (Generator seed count) told f f' = Becomes (2 ^ 40 < count) told f f' (feed_flow f' ≡ from (stretched seed 0 count) Spent)
Supplies (Health cutoff) told f f' = Becomes (Unfit cutoff) told f f' (Steady cutoff (feed_flow f) (feed_flow f'))

-- a source that stays: it was refused, or memory ended
abbrev pub Kept : Supply → Feed → Feed → Unfilled → Type 0
Kept supply f f' (Refused e) = Supplies supply (Err e) f f'
Kept supply f f' (Memory e) = f' ≡ f

-- a source by its name, and with another in its place, and else as it was
abbrev pub feed_of : CardState → Stream → Feed
feed_of c Nonces = c.nonces
feed_of c Masks = c.masks

abbrev pub with_feed : CardState → Stream → Feed → CardState
with_feed c Nonces f = record { secret = c.secret; shares = c.shares; key = c.key; nonces = f; masks = c.masks; card = c.card; work = c.work; room = c.room }
with_feed c Masks f = record { secret = c.secret; shares = c.shares; key = c.key; nonces = c.nonces; masks = f; card = c.card; work = c.work; room = c.room }

-- another source in a source's place, or a refusal, and else as it was
pub record Refills (stream : Stream) (supply : Supply) (told : Result (Unit {0}) Refusal) (c c' : CardState) : Type 0 where
  pub supplied : Supplies supply told (feed_of c stream) (feed_of c' stream)
  pub rest : c' ≡ with_feed c stream (feed_of c' stream)

abbrev pub Unfills : Stream → Supply → CardState → CardState → Unfilled → Type 0
Unfills stream supply c c' (Refused e) = Refills stream supply (Err e) c c'
Unfills stream supply c c' (Memory e) = c' ≡ c

-- with another secret and other sizes, and else as it was
abbrev pub with_secret : CardState → Vec ℤ Global → CardState
with_secret c secret = record { secret = secret; shares = c.shares; key = c.key; nonces = c.nonces; masks = c.masks; card = c.card; work = c.work; room = c.room }

abbrev pub with_sizes : CardState → ℕ → ℕ → CardState
with_sizes c work room = record { secret = c.secret; shares = c.shares; key = c.key; nonces = c.nonces; masks = c.masks; card = c.card; work = work; room = room }

-- with another key area, other masks and another card, and else as it was
abbrev pub with_key : CardState → Vec ℕ Global → Feed → Option Card → CardState
with_key c key masks card = record { secret = c.secret; shares = c.shares; key = key; nonces = c.nonces; masks = masks; card = card; work = c.work; room = c.room }

-- the card after a load, by the first test that hit: then the card that was there stays; where none did and the load is
-- refused, the masks ended, and there is no card
abbrev pub card_after : Option Card → Option Refusal → Result Loaded Refusal → Option Card
card_after card hit (Ok l) = Some l.card
card_after card (Some test) (Err e) = card
card_after card None (Err e) = None

-- what is told of it
abbrev pub masks_of : Result Loaded Refusal → Result ℕ Refusal
masks_of (Ok l) = Ok l.masks
masks_of (Err e) = Err e

-- the first test of a load that hits
abbrev pub load_hit : Params → CardState → List ℕ → Option Refusal
load_hit s c public = first_hit (load_tests s c.shares (vec_items c.secret) public (vec_items c.key))

-- a load
pub record Loads (s : Params) (c : CardState) (public : List ℕ) (r : Result ℕ Refusal) (c' : CardState) (public' : List ℕ) : Type 0 where
  pub outcome : Result Loaded Refusal
  pub loaded : LoadBy s c.shares (vec_items c.secret) (load_hit s c public) outcome public public' (vec_items c.key) (vec_items c'.key) (feed_flow c.masks) (feed_flow c'.masks)
  pub answered : r ≡ masks_of outcome
  pub rest : c' ≡ with_key c c'.key c'.masks (card_after c.card (load_hit s c public) outcome)

-- the areas that a call is lent
abbrev pub lent_areas : Params → CardState → (public : List ℕ) → Areas
lent_areas s c public = areas (vec_items c.key) public (replicate (lent c.work (6 * c.shares * s.n)) 0) (replicate (lent c.room (size s)) 0)

-- the last record after a reply: what the record area holds, where a record was made; else the one that it was
abbrev pub Records : Reply → (bytes : List ℕ) (made made' : Vec ℕ Global) → Type 0
Records (Signed (Ok r)) bytes made made' = vec_items made' ≡ bytes
Records (Signed (Err e)) bytes made made' = made' ≡ made
Records (Remasked r) bytes made made' = made' ≡ made
Records (Reported r) bytes made made' = made' ≡ made

-- with another key area, other sources and another card, and else as it was
abbrev pub with_call : CardState → Vec ℕ Global → (nonces masks : Feed) → Option Card → CardState
with_call c key nonces masks card = record { secret = c.secret; shares = c.shares; key = key; nonces = nonces; masks = masks; card = card; work = c.work; room = c.room }

-- a call of a card, lent the public area: it leaves the key that the shares stand for
pub record Performed (s : Params) (call : Call) (card : Card) (c : CardState) (public : List ℕ) (made : Vec ℕ Global) (a : Answer) (c' : CardState) (made' : Vec ℕ Global) : Type 0 where
  pub reply : Reply
  pub card' : Card
  pub work : List ℕ
  pub bytes : List ℕ
  pub performs : Performs s card.shares.count call reply card.counter card'.counter (lent_areas s c public) (areas (vec_items c'.key) public work bytes) (feed_flow c.nonces) (feed_flow c'.nonces) (feed_flow c.masks) (feed_flow c'.masks)
  pub same_shares : card'.shares.count ≡ card.shares.count
  pub same_key : recombined s card.shares.count (vec_items c'.key) ≡ recombined s card.shares.count (vec_items c.key)
  pub answered : a ≡ answer_of reply
  pub records : Records reply bytes made made'
  pub rest : c' ≡ with_call c c'.key c'.nonces c'.masks (Some card')

-- a call of the card, if there is one
abbrev pub Calls : Params → Call → Option Card → CardState → (public : List ℕ) → Vec ℕ Global → Answer → CardState → Vec ℕ Global → Type 0
Calls s call None c public made a c' made' = (a ≡ answers.NoCard call) × (c' ≡ c) × (made' ≡ made)
Calls s call (Some card) c public made a c' made' = Performed s call card c public made a c' made'
