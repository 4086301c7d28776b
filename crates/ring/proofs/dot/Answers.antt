use Rattle.std.proofs.Common.{get_or, arith}
use Rattle.ring.proofs.Loops.{dot-more, small_product}
use Rattle.ring.proofs.dot.Goals as goal

pub loop-i-preserved : goal.loop-i-preserved
loop-i-preserved g c =
    let i = c.loop-i.i in
    let xs = c.args.a.words.now in
    let ys = c.args.b.words.now in
    let small = g.S.ParamSet.sound.p_small in
    let x = c.args.a.proper.1 i (omega arith) in
    let y = c.args.b.proper.1 i (omega arith) in
    let more = dot-more i xs ys (omega arith) (omega arith) in
    let product = small_product (get_or xs i 0) (get_or ys i 0) (omega arith) (omega arith) in
    (omega (arith, c.loop-i.invariant.0), omega (arith, c.loop-i.invariant.1))
