-- The generator: the words that it stretches a seed to.
use Rattle.std.specs.Prelude.{ℕ, ◌-◌, ◌*◌, ◌^◌, ◌≤◌, List, map, length}
use Rattle.std.proofs.Common.{arith}
use Rattle.std.specs.List.{range_with_len}
use Rattle.std.proofs.lemmas.List.FromFn.{length-map-range_with_len}
use Rattle.shake.specs.Sponge.{shake_word32}
use Rattle.words.specs.declared.Mark.TheVariants.{Spent}
use Rattle.words.specs.declared.generator.Generator.{Generator}
use Rattle.words.specs.Flow.{Flow, from}

-- n words from word i on; word i is made of bytes 4 i to 4 i + 3 of SHAKE256 of the seed, the lowest first
abbrev pub stretched : List ℕ → ℕ → ℕ → List ℕ
stretched seed i n = map (λ k. shake_word32 seed (4 * k)) (range_with_len i n)

-- a generator: its words from the next one on, up to its count
abbrev pub generator_flow : Generator → Flow
generator_flow g = from (stretched g.seed g.at (g.count - g.at)) Spent

pub generator_few : (g : Generator) → length (generator_flow g).words ≤ 2 ^ 40
generator_few g =
    let e = length-map-range_with_len (λ k. shake_word32 g.seed (4 * k)) g.at (g.count - g.at) in
    let h = g.few in
    omega arith
