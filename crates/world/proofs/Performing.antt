-- A call of a card that was lent the areas of a scenario.
use Rattle.std.proofs.Common.{◌≡◌, ℕ, ◌*◌, List, length, replicate, Some, Ok, Err, vec_items, vec_len, Result, Vec, refl, ap, ◌∙◌, subst, MatchResult}
use Rattle.std.specs.Vec.{with_items}
use Rattle.std.specs.declared.alloc.Global.{Global}
use Rattle.std.proofs.lemmas.List.{with_items_is}
use Rattle.params.specs.Params.{Params}
use Rattle.record.specs.Layout.{size}
use Rattle.feed.specs.Feed.{feed_flow}
use Rattle.feed.specs.declared.Feed.{Feed}
use Rattle.polys.specs.Area.{recombined}
use Rattle.card.specs.declared.state.Card.{Card}
use Rattle.life.specs.declared.call.Call.{Call}
use Rattle.calls.specs.Replies.{Performs, areas}
use Rattle.calls.specs.declared.reply.Reply.{Reply}
use Rattle.world.specs.Areas.{lent}
use Rattle.answers.specs.Texts.{answer_of}
use Rattle.world.specs.Cards.{Performed, Records, with_call}
use Rattle.world.specs.State.{with_made}
use Rattle.world.specs.declared.card_state.CardState.{CardState}
use Rattle.world.specs.declared.state.World.{World}

module _ (s : Params) (call : Call) (card card' : Card) (c : CardState) (public key key' work work' bytes bytes' : List ℕ) (nonces' masks' : Feed) (reply : Reply) (area made made' : Vec ℕ Global) where
  pub call-done : key ≡ vec_items c.key → length key' ≡ vec_len c.key → work ≡ replicate (lent c.work (6 * c.shares * s.n)) 0 → bytes ≡ replicate (lent c.room (size s)) 0 → length bytes' ≡ vec_len area →
      Performs s card.shares.count call reply card.counter card'.counter (areas key public work bytes) (areas key' public work' bytes') (feed_flow c.nonces) (feed_flow nonces') (feed_flow c.masks) (feed_flow masks') →
      card'.shares.count ≡ card.shares.count → recombined s card.shares.count key' ≡ recombined s card.shares.count key → Records reply (vec_items (with_items area bytes')) made made' →
      Performed s call card c public made (answer_of reply) (with_call c (with_items c.key key') nonces' masks' (Some card')) made'
  call-done key_is key-long work_is bytes-is bytes-long by shares same records =
      let items = with_items_is c.key key' key-long in
      record {
        reply = reply;
        card' = card';
        work = work';
        bytes = bytes';
        performs = rw (key_is, work_is, bytes-is, ← items) at by;
        same_shares = shares;
        same_key = rw (key_is, ← items) at same;
        answered = refl;
        records = subst (λ (l : List ℕ). Records reply l made made') (with_items_is area bytes' bytes-long) records;
        rest = refl;
      }

-- with the card's things and the last record that it has, a world is as it was
pub same_world : (w : World) (card : CardState) (made : Vec ℕ Global) → card ≡ w.card → made ≡ w.made → with_made w card made ≡ w
same_world w card made same-card same-made = ap (λ (x : CardState). with_made w x made) same-card ∙ ap (λ (x : Vec ℕ Global). with_made w w.card x) same-made

-- what is known of an answer or an error, from what was known of it before
pub cases_map : {A E : Type 0} (P P' : A → Type 0) (Q Q' : E → Type 0) (r : Result A E) → ((a : A) → P a → P' a) → ((e : E) → Q e → Q' e) → MatchResult r P Q → MatchResult r P' Q'
cases_map P P' Q Q' (Ok a) f g h = f a h
cases_map P P' Q Q' (Err e) f g h = g e h
