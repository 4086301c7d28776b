use Rattle.std.proofs.Common.{◌≡◌, ℕ, ◌-◌, ◌^◌, length, get_or, set, ap, ◌∙◌, arith, w32, Fits, rules}
use Rattle.shares.specs.Groups.{word_rule, word_of}
use Rattle.shares.specs.Lawful.{word_laws}
use Rattle.shares.proofs.Pairs.{recombine-joined}
use Rattle.linear.proofs.Sharewise.{not_is}
use Rattle.linear.proofs.not.Goals as goal

pub returns-clause-word : goal.returns-clause-word
returns-clause-word g c =
    let hx : length c.args.x ≡ g.row.M = search rules in
    let f0 : Fits w32 (get_or c.args.x 0 0) = search rules in
    ap (λ (v : ℕ). word_of (set c.args.x 0 v)) (not_is 32 (get_or c.args.x 0 0) f0.fits)
    ∙ recombine-joined word_rule word_laws c.args.x 0 (2 ^ 32 - 1) (omega arith)
