use Rattle.std.proofs.Common.{◌≡◌, ℕ, ◌*◌, ◌<◌, length, ◌∙◌, arith, rules}
use Rattle.ring.specs.Ring.{product}
use Rattle.polys.specs.Area.{row}
use Rattle.polys.proofs.Rows.{Written, row_before, written-more, sums_residues}
use Rattle.polys.proofs.Sums.{respond_row, respond_value}
use Rattle.polys.proofs.linear.respond_rows.Goals as goal

pub rows-preserved : goal.rows-preserved
rows-preserved g c =
    let s = g.S.ParamSet.params in
    let factor = c.args.c.words.now in
    let j = c.rows.j in
    let b = row_before s.n j (2 * g.row.M) (omega arith) in
    let long : length c.multiply_add.new.out ≡ s.n = search rules in
    let is : c.multiply_add.new.out ≡ respond_row s c.args.key.area.now factor c.args.y.area.now j = rw (c.row.ensures, c.row-in-rows.ensures) at c.multiply_add.ensures.value in
    written-more s.n (respond_row s c.args.key.area.now factor c.args.y.area.now) j c.rows.z c.multiply_add.new.out c.degree-n.result c.degree-n.ensures (omega arith) long is c.rows.invariant

pub returns : goal.returns
returns g c =
    let s = g.S.ParamSet.params in
    let key = c.args.key.area.now in
    let y = c.args.y.area.now in
    let factor = c.args.c.words.now in
    let least = g.S.ParamSet.sound.n_least in
    let some : 0 < s.p = let h = g.S.ParamSet.sound.k_below_p in omega arith in
    let long : length c.rows.z ≡ 2 * g.row.M * s.n = c.rows.auto.z ∙ c.requires.z in
    let done : Written s.n (respond_row s key factor y) (2 * g.row.M) c.rows.z = λ k l. c.rows.invariant k (omega arith) in
    record {
      value = respond_value s g.row.M key y factor c.rows.z some c.args.key.sized c.args.y.sized long c.args.c.proper done;
      rows = done;
      residues = sums_residues s.n s.p (2 * g.row.M) (λ (k : ℕ). product s.p (row s.n k key) factor) (λ (k : ℕ). row s.n k y) c.rows.z (omega arith) some long done;
    }
