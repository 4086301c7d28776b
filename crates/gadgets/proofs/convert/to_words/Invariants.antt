use Rattle.std.proofs.Common.{◌*◌}
use Rattle.words.specs.Spending.{Spent}
use Rattle.shares.specs.Groups.{residue_rule, word_of}
use Rattle.shares.specs.Lawful.{set_laws}
use Rattle.shares.specs.Refresh.{pairs}
use Rattle.shares.proofs.Folding.{Left}
use Rattle.gadgets.proofs.convert.to_words.Given as goal

abbrev pub invariant-loop-share : goal.invariant-loop-share
invariant-loop-share g l =
    let s = g.S.Source.flow in
    let p = g.P.ParamSet.params.p in
    Left (residue_rule p) (set_laws g.P.ParamSet.params g.P.ParamSet.sound) l.share-items (word_of l.sum) l.share-index
    × Spent (l.share-index * (33 * pairs g.row.M)) (s l.initial.src) (s l.src)
