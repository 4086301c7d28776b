use Rattle.std.proofs.Common.{◌≡◌, ℕ, ◌+◌, ◌<◌, ◌≤◌, List, length, get_or, drop, sym, ap, ◌∙◌, arith}
use Rattle.std.proofs.lemmas.List.{at_drop_more, at_drop_all}
use Rattle.keccak.specs.Keccak.{round, rounds, round_constants, keccak_f}
use Rattle.keccak.proofs.permute.Goals as goal

one_more : (rcs : List ℕ) (i : ℕ) (a b : List ℕ) → i < length rcs → b ≡ round (get_or rcs i 0) a
    → rounds (drop (i + 1) rcs) b ≡ rounds (drop i rcs) a
unfolding rounds
one_more rcs i a b h e = ap (rounds (drop (i + 1) rcs)) e ∙ sym (at_drop_more (λ rs. rounds rs a) rcs i 0 h)

all_done : (rcs : List ℕ) (i : ℕ) (a : List ℕ) → length rcs ≤ i → rounds (drop i rcs) a ≡ a
unfolding rounds
all_done rcs i a h = at_drop_all (λ rs. rounds rs a) rcs i h

pub loop-constant-preserved : goal.loop-constant-preserved
loop-constant-preserved c =
    let i : ℕ = c.loop-constant.constant-index in
    let more : i < 24 = omega arith in
    one_more round_constants i c.loop-constant.a c.one_round.result more c.one_round.ensures ∙ c.loop-constant.invariant

pub returns-clause-permuted : goal.returns-clause-permuted
unfolding keccak_f
returns-clause-permuted c =
    let i : ℕ = c.loop-constant.constant-index in
    let all : 24 ≤ i = omega arith in
    sym (all_done round_constants i c.loop-constant.a all) ∙ c.loop-constant.invariant
