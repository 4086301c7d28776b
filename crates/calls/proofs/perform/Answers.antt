use Rattle.std.proofs.Common.{◌≡◌, ℕ, true, sym, refl, ap, ◌∙◌, subst, ap₂}
use Rattle.card.specs.declared.state.Report.{Report as Tells}
use Rattle.life.specs.declared.call.Call.{Call}
use Rattle.life.specs.declared.call.Call.TheVariants.{Sign, Remask, Report}
use Rattle.calls.specs.declared.reply.Reply.TheVariants.{Signed, Remasked, Reported}
use Rattle.calls.specs.Replies.{Performs, areas, fit}
use Rattle.calls.specs.Goings.{Continues, card_of, state_of}
use Rattle.calls.proofs.Continuing.{goes_on, sign-tested, remask-tested}
use Rattle.calls.proofs.perform.Goals as goal

pub returns-in-Sign : goal.returns-in-Sign
returns-in-Sign g c =
    let s = g.S.ParamSet.params in
    let card = c.args.card.now in
    let m = card.shares.count in
    let d = c.in-Sign.digest in
    let t = c.in-Sign.tries in
    let is : Sign d t ≡ c.args.call.now = sym c.in-Sign.is in
    let h = c.sign.ensures.signed in
    let key = c.args.key.now in
    let public = c.args.public.now in
    let x = areas key public c.args.work.now c.args.record.now in
    let x' = areas key public c.sign.new.work c.sign.new.record in
    let n = g.N.Source.flow c.args.nonces.now in
    let n' = g.N.Source.flow c.sign.new.nonces in
    let f = g.W.Source.flow c.args.masks.now in
    let f' = g.W.Source.flow c.sign.new.masks in
    let r = c.sign.result in
    let k = card.counter in
    let k' = c.sign.new.self.counter in
    record {
      performs = subst (λ (call : Call). Performs s m call (Signed r) k k' x x' n n' f f') is (h, refl);
      shares = c.sign.ensures.shares;
      same = refl;
      life = subst (λ (call : Call). Continues s m call (Signed r) (state_of k n f) (state_of k' n' f') x x') is
          (λ K n₀ f₀ events lives own. goes_on (card_of s K m) n₀ f₀ events (record { call = Sign d t; fits = fit s m (Sign d t) x }) (Signed r) (state_of k n f) (state_of k' n' f') x x' lives c.sign.ensures.digest
          (sign-tested (card_of s K m) lives.sound d t r k k' key public c.args.work.now c.sign.new.work c.args.record.now c.sign.new.record n n' f f' x (fit s m (Sign d t) x) own refl refl h)
          (λ fits. let o = own fits in record { area = o.area; key_is = o.key_is; public_is = o.public_is }));
    }

pub returns-in-Remask : goal.returns-in-Remask
returns-in-Remask g c =
    let s = g.S.ParamSet.params in
    let card = c.args.card.now in
    let m = card.shares.count in
    let is : Remask ≡ c.args.call.now = sym c.in-Remask.is in
    let h = c.remask.ensures.remasked in
    let public = c.args.public.now in
    let x = areas c.args.key.now public c.args.work.now c.args.record.now in
    let x' = areas c.remask.new.key public c.args.work.now c.args.record.now in
    let n = g.N.Source.flow c.args.nonces.now in
    let f = g.W.Source.flow c.args.masks.now in
    let f' = g.W.Source.flow c.remask.new.masks in
    let r = c.remask.result in
    let k = card.counter in
    record {
      performs = subst (λ (call : Call). Performs s m call (Remasked r) k k x x' n n f f') is (h, refl, refl, refl, refl);
      shares = refl;
      same = c.remask.ensures.same;
      life = subst (λ (call : Call). Continues s m call (Remasked r) (state_of k n f) (state_of k n f') x x') is
          (λ K n₀ f₀ events lives own. goes_on (card_of s K m) n₀ f₀ events (record { call = Remask; fits = fit s m Remask x }) (Remasked r) (state_of k n f) (state_of k n f') x x' lives tt
          (remask-tested (card_of s K m) lives.sound r k k x x' n n f f' (refl, refl, refl) (fit s m Remask x) own h)
          (λ fits. let o = own fits in record {
            area = record { sized = c.remask.auto.key ∙ o.area.sized; residues = c.remask.ensures.residues o.area.residues };
            key_is = c.remask.ensures.same ∙ o.key_is;
            public_is = o.public_is;
          }));
    }

pub returns-in-Report : goal.returns-in-Report
returns-in-Report g c =
    let s = g.S.ParamSet.params in
    let card = c.args.card.now in
    let m = card.shares.count in
    let is : Report ≡ c.args.call.now = sym c.in-Report.is in
    let x = areas c.args.key.now c.args.public.now c.args.work.now c.args.record.now in
    let n = g.N.Source.flow c.args.nonces.now in
    let f = g.W.Source.flow c.args.masks.now in
    let k = card.counter in
    let tell : ℕ → ℕ → Tells = λ counter shares. record { counter = counter; shares = shares } in
    let told : c.report.result ≡ tell k m = ap₂ tell c.report.ensures.counter c.report.ensures.shares in
    record {
      performs = subst (λ (call : Call). Performs s m call (Reported c.report.result) k k x x n n f f) is (told, refl, refl, refl, refl, refl, refl);
      shares = refl;
      same = refl;
      life = subst (λ (call : Call). Continues s m call (Reported c.report.result) (state_of k n f) (state_of k n f) x x) is
          (λ K n₀ f₀ events lives own. goes_on (card_of s K m) n₀ f₀ events (record { call = Report; fits = true }) (Reported c.report.result) (state_of k n f) (state_of k n f) x x lives tt
          (record { state = refl; replied = ap Reported told; written = refl }) own);
    }
