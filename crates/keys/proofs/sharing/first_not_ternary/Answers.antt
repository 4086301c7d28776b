use Rattle.std.proofs.Common.{◌∙◌, rules, tests}
use Rattle.std.proofs.lemmas.Iterator.{YieldsList-from_slice}
use Rattle.std.proofs.lemmas.Iterator.Search.{position_from_yields_List}
use Rattle.search.proofs.Searching.{position-first}
use Rattle.keys.specs.Load.{not_ternary}
use Rattle.keys.proofs.sharing.first_not_ternary.Goals as goal

pub returns : goal.returns
returns c =
    let secret = c.args.secret.now in
    position_from_yields_List not_ternary _ _ _ c.position.ensures.ran (YieldsList-from_slice secret cc) (λ x b q k. search (rules, tests))
    ∙ position-first not_ternary secret
