use Rattle.std.proofs.Common.{take, arith, length-drop}
use Rattle.runner.proofs.SoFar.{appends_keeps, appends_on}
use Rattle.runner.proofs.put.Goals.{in-Ok, in-Err}
use Rattle.runner.proofs.put.Goals as goal

pub writes-preserved : goal.writes-preserved
writes-preserved g c =
    let inv = c.writes.invariant in
    elim c.match-write.branch [
      | in-Ok w ↦ rw w.at-is (
        omega (arith, w.in-Ok.ensures.bound, length-drop c.writes.at c.args.text.now),
        appends_on (g.W.Write.contents c.args.out.now) (g.W.Write.contents c.writes.out) (g.W.Write.contents c.write.new.self) c.args.text.now c.writes.at w.in-Ok.count inv.1 w.in-Ok.ensures.bytes,
      )
      | in-Err w ↦ rw w.at-is (
        inv.0,
        appends_keeps (g.W.Write.contents c.args.out.now) (g.W.Write.contents c.writes.out) (g.W.Write.contents c.write.new.self) (take c.writes.at c.args.text.now) inv.1 w.in-Err.ensures.bytes,
      )
    ]
