use Rattle.std.proofs.Common.{ℕ, ◌/◌, Bool, List, length, ap, ◌∙◌, refl, rules, tests}
use Rattle.std.proofs.lemmas.Iterator.{YieldsList-from_slice}
use Rattle.std.proofs.lemmas.Iterator.Search.{position_from_yields_List}
use Rattle.std.specs.Simd.{first_chunks}
use Rattle.record.proofs.Firsts.{first_from-map, in_pair, z_of-pairs}
use Rattle.record.proofs.reader.first_far.Goals as goal
use Rattle.record.specs.Reading.{far}
use Rattle.search.proofs.Searching.{position-first}
use Rattle.search.specs.First.{first_at}

pub returns : goal.returns
returns g c =
    let s = g.S.ParamSet.params in
    let z = c.args.z.now in
    let pairs : List (List ℕ) = first_chunks 2 (length z / 2) z in
    let test : List ℕ → Bool = λ bytes. far s (in_pair bytes) in
    position_from_yields_List test _ _ _ c.position.ensures.ran (YieldsList-from_slice pairs cc) (λ x b q k. search (rules, tests))
    ∙ position-first test pairs
    ∙ first_from-map (far s) in_pair 0 pairs
    ∙ ap (first_at (far s)) (z_of-pairs (length z / 2) z refl)
