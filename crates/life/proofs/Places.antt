-- Each attempt's words stand at places of its own, and records are numbered.
use Rattle.std.proofs.Common.{◌≡◌, ℕ, zero, suc, ◌+◌, ◌≤◌, List, [], ◌∷◌, ◌++◌, map, length, sym, refl, ap, ◌∙◌, ap₂, append_assoc, arith, length-append}
use mathlib.Core.List.{map-append}
use Rattle.std.specs.List.{flat_map, range_with_len, AllByRecursion}
use Rattle.std.proofs.ByRecursion.{All-append}
use Rattle.record.specs.Layout.{Content}
use Rattle.plain.specs.Run.{Attempt}
use Rattle.plain.specs.Laws.{words_of}
use Rattle.life.specs.Life.{Event, MadeCard, CardState, answer, moved, life, lived, loaded, record_of, records, Tried, digest_in, attempts_in, attempts}
use Rattle.life.specs.Laws.{SoundCard, Tallied, PlacesLaw, NumbersLaw}
use Rattle.life.proofs.Turns.{Own, Turn, turn}

abbrev with_call : List ℕ → ℕ → Attempt → Tried
with_call digest counter t = record { digest = digest; counter = counter; attempt = t }

abbrev tried_words : List Tried → List ℕ
tried_words ts = flat_map (λ (t : Tried). t.attempt.words) ts

-- the words of a call's attempts, and then those of the rest
tried_first : (digest : List ℕ) (counter : ℕ) (ts : List Attempt) (more : List Tried) → tried_words (map (with_call digest counter) ts ++ more) ≡ words_of ts ++ tried_words more
tried_first digest counter [] more = refl
tried_first digest counter (t ∷ ts) more = ap (λ (ws : List ℕ). t.words ++ ws) (tried_first digest counter ts more) ∙ sym (append_assoc t.words (words_of ts) (tried_words more))

counting_append : (k i j : ℕ) → range_with_len k (i + j) ≡ range_with_len k i ++ range_with_len (k + i) j
counting_append k zero j =
    let a : 0 + j ≡ j = omega arith in
    let b : k ≡ k + 0 = omega arith in
    ap₂ range_with_len b a
counting_append k (suc i) j =
    let a : suc i + j ≡ suc (i + j) = omega arith in
    let b : k + 1 + i ≡ k + suc i = omega arith in
    ap (range_with_len k) a ∙ ap (λ (ns : List ℕ). k ∷ ns) (counting_append (k + 1) i j ∙ ap (λ (t : ℕ). range_with_len (k + 1) i ++ range_with_len t j) b)

module _ (made : MadeCard) (card : SoundCard made) where
  abbrev Own-try : Tried → Type 0
  Own-try t = Own made card t.digest t.counter t.attempt

  own-tries : (digest : List ℕ) (counter : ℕ) (ts : List Attempt) → AllByRecursion (Own made card digest counter) ts → AllByRecursion Own-try (map (with_call digest counter) ts)
  own-tries digest counter [] h = tt
  own-tries digest counter (t ∷ ts) h = (h.0, own-tries digest counter ts h.1)

  -- a life from any state
  record Accounted (c : CardState) (events : List Event) : Type 0 where
    pub in_order : c.nonces.words ≡ tried_words (attempts made c events) ++ (lived made c events).nonces.words
    pub own : AllByRecursion Own-try (attempts made c events)
    pub tallied : AllByRecursion Tallied (life made c events)
    pub numbers : map (λ (r : Content). r.counter) (records (life made c events)) ≡ range_with_len (c.counter + 1) (length (records (life made c events)))
    pub counter : (lived made c events).counter ≡ c.counter + length (records (life made c events))
    pub most : c.counter ≤ 65535 → (lived made c events).counter ≤ 65535

  accounted : (events : List Event) (c : CardState) → Accounted c events
  accounted [] c = record { in_order = refl; own = tt; tallied = tt; numbers = refl; counter = omega arith; most = λ h. h }
  accounted (e ∷ events) c =
      let x = answer made c e in
      let c' = moved made c e in
      let t : Turn made card c (digest_in e.call) x c' = turn made card c e.call e.fits in
      let k : Accounted c' events = accounted events c' in
      let ts = attempts_in x in
      let rest = attempts made c' events in
      let first = record_of x in
      let later = records (life made c' events) in
      let left = (lived made c' events).nonces.words in
      let own = with_call (digest_in e.call) (c.counter + 1) in
      let long = length-append first later in
      let now = t.counter in
      let then = k.counter in
      let next : c'.counter + 1 ≡ c.counter + 1 + length first = omega arith in
      record {
        in_order =
            t.in_order
            ∙ ap (λ (ws : List ℕ). words_of ts ++ ws) k.in_order
            ∙ sym (append_assoc (words_of ts) (tried_words rest) left)
            ∙ ap (λ (ws : List ℕ). ws ++ left) (sym (tried_first (digest_in e.call) (c.counter + 1) ts rest));
        own = All-append Own-try (map own ts) rest (own-tries (digest_in e.call) (c.counter + 1) ts t.own) k.own;
        tallied = (t.tallied, k.tallied);
        numbers =
            map-append (λ (r : Content). r.counter) first later
            ∙ ap₂ (λ (ns ms : List ℕ). ns ++ ms) t.numbers (k.numbers ∙ ap (λ (n : ℕ). range_with_len n (length later)) next)
            ∙ sym (ap (range_with_len (c.counter + 1)) long ∙ counting_append (c.counter + 1) (length first) (length later));
        counter = omega arith;
        most = λ h. k.most (t.most h);
      }

pub places_law : PlacesLaw
places_law made card nonces masks events =
    let k = accounted made card events (loaded nonces masks) in
    record { in_order = k.in_order; own = k.own; tallied = k.tallied }

pub numbers_law : NumbersLaw
numbers_law made card nonces masks events =
    let k = accounted made card events (loaded nonces masks) in
    let e = k.counter in
    record { numbers = k.numbers; counter = omega arith; most = k.most (omega arith) }
