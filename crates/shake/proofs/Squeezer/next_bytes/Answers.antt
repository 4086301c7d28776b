use Rattle.std.proofs.Common.{◌≡◌, ℕ, ◌+◌, ◌/◌, ◌%◌, ◌^◌, ◌*◌, ◌≤◌, ◌∷◌, map, take, ap, ◌∙◌, add-zero, arith, rules}
use Rattle.std.specs.List.{range_with_len}
use Rattle.std.proofs.lemmas.List.FromFn.{take-map-range_with_len}
use Rattle.shake.specs.Sponge.{shake_byte}
use Rattle.shake.proofs.Output.{bytes_of_rest, reading_on}
use Rattle.shake.proofs.Squeezer.next_bytes.Goals as goal

pub returns-in-Some : goal.returns-in-Some
returns-in-Some g c =
    λ m i a.
    let n : ℕ = g.row.N in
    let x : ℕ = c.rest_of_lane.result in
    let byte = λ (k : ℕ). x / 2 ^ (8 * k) % 256 in
    let within : c.args.self.now.sponge.pos % 8 + 0 + n ≤ 8 = omega arith in
    let chunk : c.in-Some.bytes.now ≡ take n c.to_le_bytes.result = search rules in
    let lowest : x % 256 ≡ byte 0 = omega arith in
    let lane : c.to_le_bytes.result ≡ map byte (range_with_len 0 8) = c.to_le_bytes.ensures ∙ ap (λ (b : ℕ). b ∷ map byte (range_with_len 1 7)) lowest in (
      chunk
          ∙ ap (take n) lane
          ∙ take-map-range_with_len byte 0 8 n (omega arith)
          ∙ bytes_of_rest m i x c.args.self.now a c.rest_of_lane.ensures 0 n within
          ∙ ap (λ k. map (shake_byte m) (range_with_len k n)) (add-zero i),
      reading_on m i n c.args.self.now _ _ a (omega arith) c.advance.ensures.state c.advance.ensures.place,
    )
