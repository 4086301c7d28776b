use Rattle.std.proofs.Common.{◌≡◌, ℕ, ◌*◌, eqb, drop}
use Rattle.record.proofs.reader.check_codes.Given as goal
use Rattle.record.specs.Layout.{unpacked}
use Rattle.search.specs.First.{first_at, first_from}

abbrev pub invariant-loop-i : goal.invariant-loop-i
invariant-loop-i l =
    let unused = (λ (code : ℕ). eqb code 2) in
    first_from unused (4 * l.i) (unpacked (drop l.i l.challenge)) ≡ first_at unused (unpacked l.challenge)
