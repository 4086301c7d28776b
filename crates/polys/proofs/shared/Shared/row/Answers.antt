use Rattle.std.proofs.Common.{◌≡◌, ℕ, ◌+◌, ◌-◌, ◌*◌, List, take, drop, ap, ◌∙◌, arith}
use Rattle.polys.specs.Area.{row}
use Rattle.polys.proofs.Rows.{row_before, row-proper}
use Rattle.polys.proofs.shared.Shared.row.Goals as goal

-- the words of row j, where d is n
row_words : (d n j : ℕ) (area : List ℕ) → d ≡ n → take (j * d + d - j * d) (drop (j * d) area) ≡ row n j area
unfolding row
row_words d n j area e =
    let long : j * d + d - j * d ≡ d = omega arith in
    ap (λ (k : ℕ). take k (drop (j * d) area)) long ∙ ap (λ (k : ℕ). row k j area) e

pub new-requires : goal.new-requires
new-requires g c =
    let s = g.S.ParamSet.params in
    let j = c.args.j in
    let area = c.args.self.area.now in
    let inside = row_before s.n j (g.row.K * g.row.M) c.requires in
    row-proper s.n j area (omega (arith, c.args.self.sized)) s.p _ c.args.self.residues (row_words c.degree-n.result s.n j area c.degree-n.ensures)

pub returns : goal.returns
returns g c = c.new.ensures ∙ row_words c.degree-n.result g.S.ParamSet.params.n c.args.j c.args.self.area.now c.degree-n.ensures
