use Rattle.std.proofs.Common.{◌≡◌, ℕ, ◌+◌, ◌*◌, ◌<◌, length, ◌∙◌, arith, rules}
use Rattle.ring.specs.Ring.{product}
use Rattle.polys.specs.Area.{row}
use Rattle.polys.proofs.Rows.{Written, row_before, written-more, sums_residues}
use Rattle.polys.proofs.Sums.{commit_row, commit_value}
use Rattle.polys.proofs.linear.commit_rows.Goals as goal

pub shares-preserved : goal.shares-preserved
shares-preserved g c =
    let s = g.S.ParamSet.params in
    let a = c.args.a.words.now in
    let i = c.shares.i in
    let b = row_before s.n i g.row.M (omega arith) in
    let long : length c.multiply_add.new.out ≡ s.n = search rules in
    let is : c.multiply_add.new.out ≡ commit_row s g.row.M a c.args.y.area.now i = rw (c.row.ensures, c.row-in-shares.ensures) at c.multiply_add.ensures.value in
    written-more s.n (commit_row s g.row.M a c.args.y.area.now) i c.shares.r c.multiply_add.new.out c.degree-n.result c.degree-n.ensures (omega arith) long is c.shares.invariant

pub returns : goal.returns
returns g c =
    let s = g.S.ParamSet.params in
    let a = c.args.a.words.now in
    let y = c.args.y.area.now in
    let least = g.S.ParamSet.sound.n_least in
    let some : 0 < s.p = let h = g.S.ParamSet.sound.k_below_p in omega arith in
    let long : length c.shares.r ≡ g.row.M * s.n = c.shares.auto.r ∙ c.requires.r in
    let done : Written s.n (commit_row s g.row.M a y) g.row.M c.shares.r = λ k l. c.shares.invariant k (omega arith) in
    record {
      value = commit_value s g.row.M a y c.shares.r long c.args.y.sized done;
      rows = done;
      residues = sums_residues s.n s.p g.row.M (λ (k : ℕ). product s.p a (row s.n k y)) (λ (k : ℕ). row s.n (g.row.M + k) y) c.shares.r (omega arith) some long done;
    }
