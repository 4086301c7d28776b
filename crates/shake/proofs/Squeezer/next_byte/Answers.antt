use Rattle.std.proofs.Common.{◌+◌, ◌%◌, ◌<◌, sym, ap, ◌∙◌, add-zero, arith}
use Rattle.std.proofs.lemmas.Nat.{and_mask}
use Rattle.shake.specs.Sponge.{shake_byte}
use Rattle.shake.proofs.Output.{byte_of_rest, reading_on}
use Rattle.shake.proofs.Squeezer.next_byte.Goals as goal

pub returns : goal.returns
returns c =
    λ m i a.
    let within : c.args.self.now.sponge.pos % 8 + 0 < 8 = omega arith in
    let byte = ap (shake_byte m) (sym (add-zero i)) ∙ byte_of_rest m i 0 c.rest_of_lane.result c.args.self.now a c.rest_of_lane.ensures within in
    let low = and_mask c.rest_of_lane.result 8 in (
      omega (arith, byte, low),
      reading_on m i 1 c.args.self.now _ _ a (omega arith) c.advance.ensures.state c.advance.ensures.place,
    )
