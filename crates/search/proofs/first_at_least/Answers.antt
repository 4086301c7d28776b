use Rattle.std.proofs.Common.{leb, ◌∙◌, rules, tests}
use Rattle.std.proofs.lemmas.Iterator.{YieldsList-from_slice}
use Rattle.std.proofs.lemmas.Iterator.Search.{position_from_yields_List}
use Rattle.search.proofs.Searching.{position-first}
use Rattle.search.proofs.first_at_least.Goals as goal

pub returns-clause-value : goal.returns-clause-value
returns-clause-value c =
    let words = c.args.words.now in
    position_from_yields_List (leb c.args.limit) _ _ _ c.position.ensures.ran (YieldsList-from_slice words cc) (λ x b q k. search (rules, tests))
    ∙ position-first (leb c.args.limit) words
