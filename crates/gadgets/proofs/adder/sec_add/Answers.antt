use Rattle.std.proofs.Common.{◌≡◌, ℕ, ◌*◌, ◌%◌, ◌^◌, ◌<◌, get_or, sym, subst, subst₂, arith, w32, Fits, rules}
use Rattle.std.proofs.lemmas.Nat.{one_shl, pow_below}
use Rattle.words.proofs.Spendings.{spent_as, spent_then, short_then, short_of, times_more, times_below}
use Rattle.shares.specs.Groups.{word_of}
use Rattle.shares.specs.Refresh.{pairs}
use Rattle.linear.proofs.Sharewise.{word_fits}
use Rattle.gadgets.proofs.Carries.{Carried, carries_of, carried_first, level, sum_last}
use Rattle.gadgets.proofs.adder.sec_add.Goals as goal

small : (j : ℕ) → j < 4 → (1 * 2 ^ j) % 2 ^ 32 < 32
small j h = subst (λ (m : ℕ). m < 32) (sym (one_shl j 32 (omega arith))) (pow_below j 5 (omega arith))

pub widen-requires : goal.widen-requires
widen-requires g c = let s : (1 * 2 ^ c.loop-level.level) % 2 ^ 32 < 32 = small c.loop-level.level (omega arith) in search rules

pub returns-in_err-g-2 : goal.returns-in_err-g-2
returns-in_err-g-2 g c =
    let t = times_below c.loop-level.level 4 (3 * pairs g.row.M) c.loop-level-test.true in
    let s = short_of {b = 14 * pairs g.row.M} (short_then (spent_then c.in_ok-g.ensures.by.0 c.loop-level.invariant.1) c.in_err-g-2.ensures.by) (omega arith) in
    search rules

pub loop-level-preserved : goal.loop-level-preserved
loop-level-preserved g c =
    let w = c.in_ok-g-2.ensures.by in
    let j = c.loop-level.level in (
      λ k h. level j ((1 * 2 ^ j) % 2 ^ 32) k _ _ _ _ (one_shl j 32 (omega arith)) (c.loop-level.invariant.0 k h) w.1.0 w.1.1,
      spent_as (spent_then c.loop-level.invariant.1 w.0) (times_more j (3 * pairs g.row.M)),
    )

pub returns-in_err-carried : goal.returns-in_err-carried
returns-in_err-carried g c =
    let at : c.loop-level.level ≡ 4 = omega arith in
    let s = short_of {b = 14 * pairs g.row.M} (short_then (spent_then c.in_ok-g.ensures.by.0 (spent_as {b = 12 * pairs g.row.M} c.loop-level.invariant.1 (rw at (omega arith)))) c.in_err-carried.ensures.by) (omega arith) in
    search rules

pub returns : goal.returns
returns g c =
    let fx : (k : ℕ) → Fits w32 (get_or c.args.x k 0) = λ k. search rules in
    let fy : (k : ℕ) → Fits w32 (get_or c.args.y k 0) = λ k. search rules in
    let at : c.loop-level.level ≡ 4 = omega arith in
    let X = word_of c.args.x in
    let Y = word_of c.args.y in
    let lx = word_fits 32 c.args.x (λ k. (fx k).fits) in
    let ly = word_fits 32 c.args.y (λ k. (fy k).fits) in
    let first : Carried 1 (carries_of X Y) (word_of c.in_ok-g.g) (word_of c.xor-sum.result) =
    subst₂ (λ (a b : ℕ). Carried 1 (carries_of X Y) a b) (sym c.in_ok-g.ensures.by.1.1) (sym c.xor-sum.ensures.word) (carried_first X Y lx ly) in
    let last = c.loop-level.invariant.0 (carries_of X Y) first in
    let s = spent_then (spent_then c.in_ok-g.ensures.by.0 (spent_as {b = 12 * pairs g.row.M} c.loop-level.invariant.1 (rw at (omega arith)))) c.in_ok-carried.ensures.by.0 in
    record {
      by = (
        spent_as s (omega arith),
        sum_last X Y (word_of c.loop-level.g) (word_of c.loop-level.p) _ _ _ _ _ _ lx ly
            (subst (λ (n : ℕ). Carried (2 ^ n) (carries_of X Y) (word_of c.loop-level.g) (word_of c.loop-level.p)) at last)
            c.shift_left.ensures.word c.in_ok-carried.ensures.by.1.1 c.xor.ensures.word c.xor-sum.ensures.word c.shift_left-2.ensures.word c.xor-2.ensures.word,
      );
    }
