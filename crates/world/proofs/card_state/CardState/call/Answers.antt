use Rattle.std.proofs.Common.{◌≡◌, ℕ, replicate, Some, Option, sym, ap, ◌∙◌, subst}
use Rattle.std.specs.Vec.{with_items}
use Rattle.answers.specs.declared.answer.Answer.{Answer}
use Rattle.card.specs.declared.state.Card.{Card}
use Rattle.world.specs.Areas.{lent}
use Rattle.world.specs.Cards.{Calls, Performed, with_call}
use Rattle.world.proofs.Performing.{call-done}
use Rattle.world.proofs.card_state.CardState.call.Goals as goal

pub returns : goal.returns
returns g c =
    let s = g.S.ParamSet.params in
    let self = c.args.self.now in
    let call = c.args.call.now in
    let public = c.args.public.now in
    let made = c.args.made.now in
    let made' = c.keep.new.made in
    let card = c.in-Some.card in
    let p = c.perform-reply in
    let key = c.as_mut_slice in
    let work = c.as_mut_slice-2 in
    let bytes = c.as_mut_slice-3 in
    let after = with_call self (with_items self.key p.new.key) p.new.nonces p.new.masks (Some p.new.card) in
    let work_is = work.ensures.value ∙ c.in_ok-work.ensures.items_if_clones_equal (λ y e. e) ∙ ap (λ (n : ℕ). replicate n 0) (c.lent_size-words.ensures ∙ ap (lent self.work) c.work_size.ensures) in
    let bytes-is = bytes.ensures.value ∙ c.in_ok-record.ensures.items_if_clones_equal (λ y e. e) ∙ ap (λ (n : ℕ). replicate n 0) (c.lent_size-bytes.ensures ∙ ap (lent self.room) c.size.ensures) in
    let done = call-done s call card p.new.card self public key.result.now p.new.key work.result.now p.new.work bytes.result.now p.new.record p.new.nonces p.new.masks p.result c.in_ok-record.record made made'
    key.ensures.value (p.auto.key ∙ key.ensures.len) work_is bytes-is (p.auto.record ∙ bytes.ensures.len) p.ensures.performs p.ensures.shares p.ensures.same c.keep.ensures in
    let told : Performed s call card self public made c.from.result after made' = subst (λ (a : Answer). Performed s call card self public made a after made') (sym c.from.ensures) done in
    let is : self.card ≡ Some card = sym c.take.ensures.value ∙ c.in-Some.is in
    subst (λ (o : Option Card). Calls s call o self public made c.from.result after made') (sym is) told
