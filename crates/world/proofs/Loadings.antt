-- A load, on what a scenario keeps.
use Rattle.std.proofs.Common.{◌≡◌, ℕ, Bool, true, false, List, [], ◌∷◌, length, ℤ, Some, None, Ok, Err, vec_items, vec_len, Option, Result, Vec, sym, refl, ap, ◌∙◌, arith}
use Rattle.std.specs.Vec.{with_items}
use Rattle.std.proofs.lemmas.List.{with_items_is}
use Rattle.std.specs.declared.alloc.Global.{Global}
use Rattle.params.specs.Params.{Params}
use Rattle.refusal.specs.Tests.{unless, at_index, first_hit}
use Rattle.refusal.specs.declared.Area.TheVariants.{Public}
use Rattle.refusal.specs.declared.Refusal.{Refusal}
use Rattle.refusal.specs.declared.Refusal.TheVariants.{ShareCount, AreaSize, NotResidue, NotTernary, MasksEnded}
use Rattle.words.specs.Flow.{Flow}
use Rattle.words.specs.declared.Mark.{Mark}
use Rattle.feed.specs.Feed.{feed_flow}
use Rattle.feed.specs.declared.Feed.{Feed}
use Rattle.keys.specs.Load.{load_tests, count_test, sizes_test, a_test, secret_test}
use Rattle.card.specs.Load.{LoadBy}
use Rattle.card.specs.declared.state.Card.{Card}
use Rattle.card.specs.declared.state.Loaded.{Loaded}
use Rattle.world.specs.Cards.{Loads, card_after, load_hit, masks_of, with_key}
use Rattle.world.specs.declared.card_state.CardState.{CardState}

-- tests that do not answer e
other_first : (t : Option Refusal) (ts : List (Option Refusal)) (e : Refusal) → (t ≡ Some e → ⊥) → (first_hit ts ≡ Some e → ⊥) → first_hit (t ∷ ts) ≡ Some e → ⊥
other_first None ts e a b h = b h
other_first (Some x) ts e a b h = a h

other_unless : (b : Bool) (x e : Refusal) → (x ≡ e → ⊥) → unless b x ≡ Some e → ⊥
other_unless true x e ne h = let z : ◌≡◌ {A = ℕ} 0 1 = cc in omega arith
other_unless false x e ne h = ne cc

other_index : (f : ℕ → Refusal) (o : Option ℕ) (e : Refusal) → ((i : ℕ) → f i ≡ e → ⊥) → at_index f o ≡ Some e → ⊥
other_index f None e ne h = let z : ◌≡◌ {A = ℕ} 0 1 = cc in omega arith
other_index f (Some i) e ne h = ne i cc

-- no test of a load answers that the masks ended
no_end : (s : Params) (m : ℕ) (secret : List ℤ) (public key : List ℕ) (mark : Mark) → first_hit (load_tests s m secret public key) ≡ Some (MasksEnded mark) → ⊥
no_end s m secret public key mark =
    other_first (count_test m) _ (MasksEnded mark) (other_unless _ ShareCount (MasksEnded mark) (λ e. let z : ◌≡◌ {A = ℕ} 0 1 = cc in omega arith))
    (other_first (sizes_test s m secret public key) _ (MasksEnded mark) (other_unless _ AreaSize (MasksEnded mark) (λ e. let z : ◌≡◌ {A = ℕ} 0 1 = cc in omega arith))
    (other_first (a_test s public) _ (MasksEnded mark) (other_index (NotResidue Public) _ (MasksEnded mark) (λ i e. let z : ◌≡◌ {A = ℕ} 0 1 = cc in omega arith))
    (other_first (secret_test secret) [] (MasksEnded mark) (other_index NotTernary _ (MasksEnded mark) (λ i e. let z : ◌≡◌ {A = ℕ} 0 1 = cc in omega arith)) (λ h. let z : ◌≡◌ {A = ℕ} 0 1 = cc in omega arith))))

module _ (s : Params) (m : ℕ) (secret : List ℤ) (card : Option Card) (e : Refusal) (public public' key key' : List ℕ) (f f' : Flow) where
  -- the card is lost where the masks ended, and only there
  card-lost : (hit : Option Refusal) (mark : Mark) → (hit ≡ Some (MasksEnded mark) → ⊥) → e ≡ MasksEnded mark → LoadBy s m secret hit (Err e) public public' key key' f f' → card_after card hit (Err e) ≡ None
  card-lost (Some test) mark other is h = let r = h.0 in absurd (other cc)
  card-lost None mark other is h = refl

  card-stays : (hit : Option Refusal) → ((mark : Mark) → e ≡ MasksEnded mark → ⊥) → LoadBy s m secret hit (Err e) public public' key key' f f' → card_after card hit (Err e) ≡ card
  card-stays (Some test) other h = refl
  card-stays None other h = absurd (other _ h.0.why)

-- a load that was lent the areas of a scenario
module _ (s : Params) (c : CardState) (public public' : List ℕ) (secret : List ℤ) (key : List ℕ) (secret-is : secret ≡ vec_items c.secret) (key_is : key ≡ vec_items c.key) (written : List ℕ) (long : length written ≡ vec_len c.key) (masks' : Feed) (outcome : Result Loaded Refusal) (by : LoadBy s c.shares secret (first_hit (load_tests s c.shares secret public key)) outcome public public' key written (feed_flow c.masks) (feed_flow masks')) where
  abbrev key' : Vec ℕ Global
  key' = with_items c.key written

  lent : LoadBy s c.shares (vec_items c.secret) (load_hit s c public) outcome public public' (vec_items c.key) (vec_items key') (feed_flow c.masks) (feed_flow masks')
  lent = rw (secret-is, key_is, ← with_items_is c.key written long) at by

  loads : (r : Result ℕ Refusal) (card : Option Card) → r ≡ masks_of outcome → card_after c.card (load_hit s c public) outcome ≡ card → Loads s c public r (with_key c key' masks' card) public'
  loads r card told is = record { outcome = outcome; loaded = lent; answered = told; rest = ap (with_key c key' masks') (sym is) }

  pub load-done : (l : Loaded) → outcome ≡ Ok l → Loads s c public (Ok l.masks) (with_key c key' masks' (Some l.card)) public'
  load-done l is = loads _ _ (sym (ap masks_of is)) (ap (card_after c.card (load_hit s c public)) is)

  module _ (e : Refusal) (is : outcome ≡ Err e) where
    by-err : LoadBy s c.shares (vec_items c.secret) (load_hit s c public) (Err e) public public' (vec_items c.key) (vec_items key') (feed_flow c.masks) (feed_flow masks')
    by-err = rw is at lent

    pub load-ended : (mark : Mark) → e ≡ MasksEnded mark → Loads s c public (Err e) (with_key c key' masks' None) public'
    load-ended mark why =
        loads _ _ (sym (ap masks_of is))
        (ap (card_after c.card (load_hit s c public)) is ∙ card-lost s c.shares (vec_items c.secret) c.card e public public' (vec_items c.key) (vec_items key') (feed_flow c.masks) (feed_flow masks') (load_hit s c public) mark (no_end s c.shares (vec_items c.secret) public (vec_items c.key) mark) why by-err)

    pub load-refused : ((mark : Mark) → e ≡ MasksEnded mark → ⊥) → Loads s c public (Err e) (with_key c key' masks' c.card) public'
    load-refused other =
        loads _ _ (sym (ap masks_of is))
        (ap (card_after c.card (load_hit s c public)) is ∙ card-stays s c.shares (vec_items c.secret) c.card e public public' (vec_items c.key) (vec_items key') (feed_flow c.masks) (feed_flow masks') (load_hit s c public) other by-err)
