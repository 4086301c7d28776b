use Rattle.std.proofs.Common.{ℕ, Bool, eqb, ap, ◌∙◌, rules, tests}
use Rattle.std.proofs.lemmas.Iterator.{YieldsList-from_slice}
use Rattle.std.proofs.lemmas.Iterator.Search.{position_from_yields_List}
use Rattle.record.proofs.reader.first_unused_in.Goals as goal
use Rattle.search.proofs.Searching.{position-first}
use Rattle.search.specs.First.{first_at}

pub returns : goal.returns
returns c =
    let unused : ℕ → Bool = λ code. eqb code 2 in
    position_from_yields_List unused _ _ _ c.position.ensures.ran (YieldsList-from_slice c.codes.result cc) (λ x b q k. search (rules, tests))
    ∙ position-first unused c.codes.result
    ∙ ap (first_at unused) c.codes.ensures
