use Rattle.std.proofs.Common.{ℕ, ◌/◌, sym, ap, ◌∙◌, arith, rules}
use Rattle.std.specs.NonZero.{non_zero_u32_get}
use Rattle.attempt.specs.Attempt.{signs}
use Rattle.signing.specs.Signing.{Follows, plain_run}
use Rattle.signing.proofs.Counting.{begun_is, meter-same, meter-spent, meter-count, counts_are}
use Rattle.signing.proofs.counted.sign_counted.Goals as goal

pub returns : goal.returns
returns g c =
    let s = g.S.ParamSet.params in
    let tries = non_zero_u32_get c.args.tries in
    let n = g.N.Source.flow c.args.nonces.now in
    let f = g.W.Source.flow c.args.masks.now in
    let mn = c.sign_shares-ending.new.nonces in
    let mf = c.sign_shares-ending.new.masks in
    let n' = g.N.Source.flow mn.src.now in
    let f' = g.W.Source.flow mf.src.now in
    let d = rw (c.new-nonce_meter.ensures, c.new-mask_meter.ensures) at c.sign_shares-ending.ensures in
    let en = meter-same _ _ mn.src.ghost_name mn.count n n' d.nonces in
    let ef = meter-same _ _ mf.src.ghost_name mf.count f f' d.masks in
    let sn = meter-spent _ _ mn.src.ghost_name mn.count n n' d.nonces in
    let sf = meter-spent _ _ mf.src.ghost_name mf.count f f' d.masks in
    let kn = meter-count _ _ mn.src.ghost_name mn.count n n' d.nonces (omega arith) (g.N.Source.few c.args.nonces.now) in
    let kf = meter-count _ _ mf.src.ghost_name mf.count f f' d.masks (omega arith) (g.W.Source.few c.args.masks.now) in
    let R = plain_run s c.args.subject.shares.count (signs s c.args.subject.shares.count c.args.subject) tries n f in
    let follows : Follows s c.args.subject.shares.count tries c.sign_shares-ending.result c.args.record.now c.sign_shares-ending.new.record n n' f f' R = record { ends = d.ends; nonces = sn; masks = sf; left = d.left; seen = d.seen } in
    let drawn = c.count-drawn.ensures ∙ kn in
    let counts = counts_are R _ _ _ _ ((rw c.get.ensures.value at c.attempts_begun.ensures) ∙ begun_is s tries c.sign_shares-ending.result _ _ R d.ends) (ap (λ (k : ℕ). k / c.args.subject.shares.count) drawn ∙ sym d.seen) drawn (c.count.ensures ∙ kf) in
    search rules
