use Rattle.std.proofs.Common.{[], arith}
use Rattle.words.proofs.generator.Generator.new.Goals as goal

pub invariant_of-result : goal.invariant_of-result
invariant_of-result c =
    let r = c.finish.ensures c.args.seed (c.absorb.ensures [] c.new-hasher.ensures) in
    record { reading = r; within = omega arith; few = omega arith }
