-- A call that does what its definition says is the next event of the card's life.
use Rattle.std.proofs.Common.{◌≡◌, ℕ, zero, suc, ◌<◌, Bool, true, false, leb, List, [], ◌∷◌, ◌++◌, get_or, take, drop, Some, None, Option, Result, sym, refl, ap, ◌∙◌, subst, ap₂, arith}
use Rattle.std.specs.List.{AllByRecursion}
use Rattle.std.proofs.ByRecursion.{All-push}
use Rattle.std.proofs.lemmas.List.{take_at, drop_at}
use Rattle.std.proofs.lemmas.Bool.{lt-leb}
use Rattle.params.specs.Params.{Params, Sound}
use Rattle.refusal.specs.declared.Area.TheVariants.{Public, Key as KeyPart}
use Rattle.refusal.specs.declared.Refusal.{Refusal}
use Rattle.refusal.specs.declared.Refusal.TheVariants.{AreaSize, NotResidue}
use Rattle.refusal.specs.Tests.{unless, at_index, first_hit}
use Rattle.ring.specs.Ring.{Residues}
use Rattle.search.specs.First.{first_at}
use Rattle.search.proofs.Searching.{all-miss}
use Rattle.words.specs.Flow.{Flow}
use Rattle.polys.specs.Area.{recombined}
use Rattle.plain.specs.Run.{Key, sign}
use Rattle.plain.specs.Laws.{words_of}
use Rattle.plain.proofs.Accounting.{signing_accounts}
use Rattle.attempt.specs.Attempt.{key_in}
use Rattle.card.specs.declared.state.Signed.{Signed}
use Rattle.keys.specs.Remask.{word_test}
use Rattle.card.specs.Remask.{RemaskBy}
use Rattle.card.specs.Sign.{Ran, SignBy, counter_test, public_test, tries_test}
use Rattle.life.specs.declared.call.Call.TheVariants.{Sign, Remask}
use Rattle.life.specs.Life.{Event, MadeCard, CardState, after_sign, answer, lived, loaded, moved, run_of, sign_answer}
use Rattle.life.specs.Laws.{SoundCard, Digested}
use Rattle.life.proofs.Verify.{public_key}
use Rattle.life.proofs.Newer.{newer_law}
use Rattle.life.proofs.Places.{places_law, numbers_law}
use Rattle.life.proofs.Alike.{alike_law}
use Rattle.calls.specs.declared.reply.Reply.{Reply}
use Rattle.calls.specs.declared.reply.Reply.TheVariants.{Signed as SignReply, Remasked}
use Rattle.calls.specs.Replies.{Areas, bytes_after, reply_of}
use Rattle.calls.specs.Goings.{GoesOn, Lives, OwnAreas, Promises, state_of}

lived_push : (made : MadeCard) (c : CardState) (events : List Event) (e : Event) → lived made c (events ++ e ∷ []) ≡ moved made (lived made c events) e
lived_push made c [] e = refl
lived_push made c (d ∷ events) e = lived_push made (moved made c d) events e

promises_of : (made : MadeCard) → SoundCard made → (n f : Flow) (events : List Event) → AllByRecursion (λ (e : Event). Digested e.call) events → Promises made n f events
promises_of made sound n f events digests = record {
  newer = newer_law made sound n f events digests;
  places = places_law made sound n f events;
  alike = λ m other n' f' same mark j. alike_law made m sound other n f n' f' same mark events j;
  numbered = numbers_law made sound n f events;
}

-- what a call has to show
pub record Next (made : MadeCard) (e : Event) (reply : Reply) (before after : CardState) (bytes bytes' : List ℕ) : Type 0 where
  pub state : moved made before e ≡ after
  pub replied : reply ≡ reply_of (answer made before e)
  pub written : bytes' ≡ bytes_after made.set (answer made before e) bytes

pub goes_on : (made : MadeCard) (n f : Flow) (events : List Event) (e : Event) (reply : Reply) (before after : CardState) (x x' : Areas) → Lives made n f events before → Digested e.call → Next made e reply before after x.bytes x'.bytes → (e.fits ≡ true → OwnAreas made x') → GoesOn made n f events e reply before after x x'
goes_on made n f events e reply before after x x' lives digested next own =
    let digests = All-push (λ (e : Event). Digested e.call) events e lives.digests digested in
    record {
      lives = record { sound = lives.sound; state = lived_push made (loaded n f) events e ∙ ap (λ (c : CardState). moved made c e) lives.state ∙ next.state; digests = digests };
      replied = next.replied;
      written = next.written;
      own = own;
      promises = promises_of made lives.sound n f (events ++ e ∷ []) digests;
    }

-- residues pass the test of an area's words
words_pass : (p : ℕ) (e : ℕ → Refusal) (xs : List ℕ) → Residues p xs → at_index e (first_at (leb p) xs) ≡ None
words_pass p e xs r = ap (at_index e) (all-miss 0 (leb p) xs (λ k h. lt-leb p (get_or xs k 0) (r k h)))

module _ (made : MadeCard) (sound : SoundCard made) (x : Areas) (own : OwnAreas made x) where
  -- the lent areas hold the card's key
  key-held : key_in made.set made.shares (take made.set.n x.public) x.key ≡ made.key
  key-held =
      let n = made.set.n in
      let a : take n x.public ≡ made.key.a = ap (take n) own.public_is ∙ take_at made.key.a _ n sound.a.0 in
      let s1 : take n (recombined made.set made.shares x.key) ≡ made.key.s1 = ap (take n) own.key_is ∙ take_at made.key.s1 made.key.s2 n sound.s1.0 in
      let s2 : drop n (recombined made.set made.shares x.key) ≡ made.key.s2 = ap (drop n) own.key_is ∙ drop_at made.key.s1 made.key.s2 n sound.s1.0 in
      let secret : List ℕ → List ℕ → List ℕ × List ℕ = λ u v. (u, v) in
      let key : List ℕ → List ℕ × List ℕ → Key = λ u v. record { a = u; s1 = v.0; s2 = v.1 } in
      ap₂ key a (ap₂ secret s1 s2)

  public-passes : public_test made.set x.public ≡ None
  public-passes =
      words_pass made.set.p (NotResidue Public) x.public
      (subst (Residues made.set.p) (sym own.public_is) (public_key made.set sound.sound made.key sound.a sound.s1 sound.s2).residues)

  key-passes : word_test made.set x.key ≡ None
  key-passes = words_pass made.set.p (NotResidue KeyPart) x.key own.area.residues

-- what a run leaves of the nonces is what is behind the words that it drew
left_of_some : (s : Params) → Sound s → (key : Key) (m : ℕ) → 0 < m → (digest : List ℕ) (counter tries : ℕ) → 0 < tries → (n f : Flow) → (sign s key m digest counter tries n f).left ≡ drop (sign s key m digest counter tries n f).drawn n.words
left_of_some s sound key m pos digest counter tries some n f =
    let r = sign s key m digest counter tries n f in
    let a = signing_accounts s sound key m pos digest counter tries some n f in
    sym (ap (drop r.drawn) a.in_order ∙ drop_at (words_of r.attempts) r.left r.drawn (sym a.counted))

left_is : (s : Params) → Sound s → (key : Key) (m : ℕ) → 0 < m → (digest : List ℕ) (counter tries : ℕ) (n f : Flow) → (sign s key m digest counter tries n f).left ≡ drop (sign s key m digest counter tries n f).drawn n.words
unfolding sign
left_is s sound key m pos digest counter zero n f = left_of_some s sound key m pos digest counter 1 (omega arith) n f
left_is s sound key m pos digest counter (suc k) n f = left_of_some s sound key m pos digest counter (suc k) (omega arith) n f

-- a sign by the tests that are left once the areas are the card's own
module _ (made : MadeCard) (sound : SoundCard made) (digest : List ℕ) (tries : ℕ) (r : Result Signed Refusal) (counter counter' : ℕ) (key public work work' bytes bytes' : List ℕ) (n n' f f' : Flow) where
  abbrev before : CardState
  before = state_of counter n f

  abbrev after : CardState
  after = state_of counter' n' f'

  sign-next : (held : key_in made.set made.shares (take made.set.n public) key ≡ made.key) (o : Option Refusal) → SignBy made.set made.shares digest tries key public o r counter counter' work work' bytes bytes' n n' f f'
      → (after_sign o (state_of counter n f) (run_of made (state_of counter n f) digest tries) ≡ state_of counter' n' f')
      × (SignReply r ≡ reply_of (sign_answer o (run_of made (state_of counter n f) digest tries)))
      × (bytes' ≡ bytes_after made.set (sign_answer o (run_of made (state_of counter n f) digest tries)) bytes)
  sign-next held (Some e) h = (cc-state, ap SignReply h.0, h.3)
    where
      cc-state : state_of counter n f ≡ state_of counter' n' f'
      cc-state = let a = h.1 in let b = h.4 in let c = h.5 in cc
  sign-next held None h =
      let s = made.set in
      let R = run_of made before digest tries in
      let g : Ran s R r counter counter' work work' bytes bytes' n n' f f' = subst (λ (k : Key). Ran s (sign s k made.shares digest counter tries n f) r counter counter' work work' bytes bytes' n n' f f') held h in
      let left = left_is s sound.sound made.key made.shares sound.some digest counter tries n f in
      let nonces : record { words = R.left; mark = n.mark; origin = n.origin } ≡ n' = ap (λ (ws : List ℕ). record { words = ws; mark = n.mark; origin = n.origin }) left ∙ sym g.nonces in
      let counted = g.counted in
      let masks = g.masks in
      (cc, ap SignReply g.answered, g.written)

  -- all its tests
  pub sign-tested : (x : Areas) (b : Bool) → (b ≡ true → OwnAreas made x) → x.key ≡ key → x.public ≡ public
      → SignBy made.set made.shares digest tries key public (first_hit (unless b AreaSize ∷ public_test made.set public ∷ word_test made.set key ∷ tries_test tries ∷ counter_test counter ∷ [])) r counter counter' work work' bytes bytes' n n' f f'
      → Next made (record { call = Sign digest tries; fits = b }) (SignReply r) (state_of counter n f) (state_of counter' n' f') bytes bytes'
  sign-tested x false own ek ep h =
      let a = h.1 in
      let b = h.4 in
      let c = h.5 in
      record { state = cc; replied = ap SignReply h.0; written = h.3 }
  sign-tested x true own ek ep h =
      let o = own refl in
      let pp : public_test made.set public ≡ None = ap (public_test made.set) (sym ep) ∙ public-passes made sound x o in
      let kp : word_test made.set key ≡ None = ap (word_test made.set) (sym ek) ∙ key-passes made sound x o in
      let held : key_in made.set made.shares (take made.set.n public) key ≡ made.key = sym (ap₂ (λ (p k : List ℕ). key_in made.set made.shares (take made.set.n p) k) ep ek) ∙ key-held made sound x o in
      let rest = first_hit (tries_test tries ∷ counter_test counter ∷ []) in
      let tests : first_hit (public_test made.set public ∷ word_test made.set key ∷ tries_test tries ∷ counter_test counter ∷ []) ≡ rest = ap₂ (λ (a b : Option Refusal). first_hit (a ∷ b ∷ tries_test tries ∷ counter_test counter ∷ [])) pp kp in
      let t = sign-next held rest (subst (λ (o : Option Refusal). SignBy made.set made.shares digest tries key public o r counter counter' work work' bytes bytes' n n' f f') tests h) in
      record { state = t.0; replied = t.1; written = t.2 }

-- a remask
module _ (made : MadeCard) (sound : SoundCard made) (r : Result ℕ Refusal) (counter counter' : ℕ) (x x' : Areas) (n n' f f' : Flow) (same : (counter' ≡ counter) × (x'.bytes ≡ x.bytes) × (n' ≡ n)) where
  pub remask-tested : (b : Bool) → (b ≡ true → OwnAreas made x) → RemaskBy made.set made.shares (first_hit (unless b AreaSize ∷ word_test made.set x.key ∷ [])) r x.key x'.key f f'
      → Next made (record { call = Remask; fits = b }) (Remasked r) (state_of counter n f) (state_of counter' n' f') x.bytes x'.bytes
  remask-tested false own h =
      let a = same.0 in
      let b = same.2 in
      let c = h.2 in
      record { state = cc; replied = ap Remasked h.0; written = same.1 }
  remask-tested true own h =
      let g = subst (λ (o : Option Refusal). RemaskBy made.set made.shares (first_hit (o ∷ [])) r x.key x'.key f f') (key-passes made sound x (own refl)) h in
      let a = same.0 in
      let b = same.2 in
      let c = g.2 in
      record { state = cc; replied = ap Remasked g.0; written = same.1 }
