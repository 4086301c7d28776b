-- A call in the middle of a card's life: the life goes on, and its promises hold.
use Rattle.std.specs.Prelude.{◌≡◌, ℕ, true, List, [], ◌∷◌, ◌++◌, map, take, drop, ℤ}
use Rattle.std.specs.List.{AllByRecursion}
use Rattle.params.specs.Params.{Params}
use Rattle.record.specs.Layout.{Content}
use Rattle.words.specs.Flow.{Flow}
use Rattle.polys.specs.Area.{recombined}
use Rattle.plain.specs.Nonces.{candidates}
use Rattle.plain.specs.Run.{Key}
use Rattle.keys.specs.Key.{KeyArea}
use Rattle.keys.specs.Load.{residues_of}
use Rattle.life.specs.declared.call.Call.{Call}
use Rattle.life.specs.Life.{Event, MadeCard, CardState, answer, life, lived, loaded, records}
use Rattle.life.specs.Laws.{SoundCard, Digested, JudgedByCounter, OwnPlaces, Numbered, MasksLast, till_key, told, with_shares}
use Rattle.calls.specs.declared.reply.Reply.{Reply}
use Rattle.calls.specs.Replies.{Areas, bytes_after, fit, reply_of}

-- a card of m shares with this key
abbrev pub card_of : Params → Key → ℕ → MadeCard
card_of s key m = record { set = s; key = key; shares = m }

abbrev pub state_of : (counter : ℕ) (n f : Flow) → CardState
state_of counter n f = record { counter = counter; nonces = n; masks = f }

-- the card's own areas: shares of its key, and its public key
pub record OwnAreas (made : MadeCard) (x : Areas) : Type 0 where
  pub area : KeyArea made.set made.shares x.key
  pub key_is : recombined made.set made.shares x.key ≡ made.key.s1 ++ made.key.s2
  pub public_is : x.public ≡ till_key made

-- a card that was loaded, with these sources left, and then lent to these calls
pub record Lives (made : MadeCard) (nonces masks : Flow) (events : List Event) (now : CardState) : Type 0 where
  pub sound : SoundCard made
  pub state : lived made (loaded nonces masks) events ≡ now
  pub digests : AllByRecursion (λ (e : Event). Digested e.call) events

-- the key of a secret beside the public polynomial a
abbrev pub key_of : Params → (secret : List ℤ) (public : List ℕ) → Key
key_of s secret public = record { a = take s.n public; s1 = take s.n (residues_of s secret); s2 = drop s.n (residues_of s secret) }

-- a load begins a life, whatever the nonce source: no call yet, the counter 0, what the load left of the masks, and the card's own areas
pub record Begins (s : Params) (m : ℕ) (secret : List ℤ) (public : List ℕ) (x : Areas) (masks : Flow) : Type 0 where
  pub lives : (nonces : Flow) → Lives (card_of s (key_of s secret public) m) nonces masks [] (state_of 0 nonces masks)
  pub own : OwnAreas (card_of s (key_of s secret public) m) x

-- what holds over a life: whatever a till with the card's public key was shown, it takes a record of the card exactly when its counter is above
-- all that it took before; each attempt has places of its own in the nonce list; a card with another number of shares, other masks and the
-- same candidates for nonces tells the same until the masks of one end; and the records are numbered from 1 on
pub record Promises (made : MadeCard) (nonces masks : Flow) (events : List Event) : Type 0 where
  pub newer : AllByRecursion (λ (r : Content). (before : List (List ℕ)) → JudgedByCounter made r before) (records (life made (loaded nonces masks) events))
  pub places : OwnPlaces made nonces masks events
  pub alike : (m : ℕ) → SoundCard (with_shares m made) → (nonces' masks' : Flow) →
      candidates made.set made.shares nonces.words ≡ candidates made.set m nonces'.words → nonces.mark ≡ nonces'.mark → (j : ℕ) →
      MasksLast made.set (take j (life made (loaded nonces masks) events)) →
      MasksLast made.set (take j (life (with_shares m made) (loaded nonces' masks') events)) →
      map (told made.set) (take j (life made (loaded nonces masks) events)) ≡ map (told made.set) (take j (life (with_shares m made) (loaded nonces' masks') events))
  pub numbered : Numbered made nonces masks events

-- the call as the life's next event
pub record GoesOn (made : MadeCard) (nonces masks : Flow) (events : List Event) (e : Event) (reply : Reply) (before after : CardState) (x x' : Areas) : Type 0 where
  pub lives : Lives made nonces masks (events ++ e ∷ []) after
  pub replied : reply ≡ reply_of (answer made before e)
  pub written : x'.bytes ≡ bytes_after made.set (answer made before e) x.bytes
  pub own : e.fits ≡ true → OwnAreas made x'
  pub promises : Promises made nonces masks (events ++ e ∷ [])

-- whatever the key, the sources at load and the calls before: where the lent areas are the card's own or of a wrong size, the life goes on
abbrev pub Continues : Params → (m : ℕ) → Call → Reply → (before after : CardState) (x x' : Areas) → Type 0
Continues s m call reply before after x x' =
    (key : Key) (nonces masks : Flow) (events : List Event) →
    Lives (card_of s key m) nonces masks events before →
    (fit s m call x ≡ true → OwnAreas (card_of s key m) x) →
    GoesOn (card_of s key m) nonces masks events (record { call = call; fits = fit s m call x }) reply before after x x'
