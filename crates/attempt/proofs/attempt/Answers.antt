use Rattle.std.proofs.Common.{◌<◌, Ok, refl, arith}
use Rattle.std.proofs.lemmas.Result.{err_from_is_err_and}
use Rattle.attempt.proofs.Closing.{attempt-closed, attempt-uncommitted}
use Rattle.attempt.proofs.attempt.Goals as goal

pub returns-in_err-committed : goal.returns-in_err-committed
returns-in_err-committed g c =
    let u = c.args.subject in
    let some : 0 < g.row.M = omega (arith, c.requires.shares, u.shares.some) in
    let p = err_from_is_err_and c.from_residual-in_err-committed.result c.from_residual-in_err-committed.ensures.1 in
    rw (p.1, p.2) (attempt-uncommitted g.S.ParamSet.params g.row.M some u.a.words.now u.key.now u.digest.now u.counter c.args.number c.in_ok-drawn.drawn c.draw.new.y _ _ _ _ c.in_ok-drawn.ensures.drawn _ _ c.in_err-committed.ensures)

pub returns-in_err-passed : goal.returns-in_err-passed
returns-in_err-passed g c =
    let u = c.args.subject in
    let some : 0 < g.row.M = omega (arith, c.requires.shares, u.shares.some) in
    let committed = rw c.new-y.ensures at c.in_ok-committed.ensures in
    let closes = rw (c.new-y.ensures, c.new-key.ensures, c.new.ensures) at c.in_err-passed.ensures in
    let p = err_from_is_err_and c.from_residual-in_err-passed.result c.from_residual-in_err-passed.ensures.1 in
    rw (p.1, p.2) (attempt-closed g.S.ParamSet.params g.row.M some u.a.words.now u.key.now u.digest.now u.counter c.args.number c.in_ok-drawn.drawn c.draw.new.y _ _ _ _ c.in_ok-drawn.ensures.drawn committed c.challenge.new.c c.challenge.ensures.is _ closes refl)

pub returns-then-passed : goal.returns-then-passed
returns-then-passed g c =
    let u = c.args.subject in
    let some : 0 < g.row.M = omega (arith, c.requires.shares, u.shares.some) in
    let committed = rw c.new-y.ensures at c.in_ok-committed.ensures in
    let closes = rw (c.new-y.ensures, c.new-key.ensures, c.new.ensures) at c.in_ok-passed.ensures in
    attempt-closed g.S.ParamSet.params g.row.M some u.a.words.now u.key.now u.digest.now u.counter c.args.number c.in_ok-drawn.drawn c.draw.new.y _ _ _ _ c.in_ok-drawn.ensures.drawn committed c.challenge.new.c c.challenge.ensures.is (Ok c.in_ok-passed.passed) closes (rw c.if-passed.true c.write_record.ensures)

pub returns-else-passed : goal.returns-else-passed
returns-else-passed g c =
    let u = c.args.subject in
    let some : 0 < g.row.M = omega (arith, c.requires.shares, u.shares.some) in
    let committed = rw c.new-y.ensures at c.in_ok-committed.ensures in
    let closes = rw (c.new-y.ensures, c.new-key.ensures, c.new.ensures) at c.in_ok-passed.ensures in
    attempt-closed g.S.ParamSet.params g.row.M some u.a.words.now u.key.now u.digest.now u.counter c.args.number c.in_ok-drawn.drawn c.draw.new.y _ _ _ _ c.in_ok-drawn.ensures.drawn committed c.challenge.new.c c.challenge.ensures.is (Ok c.in_ok-passed.passed) closes (rw c.if-passed.false refl)
