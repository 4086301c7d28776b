use Rattle.std.proofs.Common.{◌≡◌, ℕ, ◌*◌, ◌∙◌, ap, length, replicate, subst}
use Rattle.std.proofs.lemmas.List.FromFn.{length-map-range_with_len}
use Rattle.shake.specs.Sponge.{shake_word32}
use Rattle.words.specs.Flow.{Flow}
use Rattle.words.specs.Generators.{generator_flow}
use Rattle.gauge.specs.Gauge.{Gauged, set_of}
use Rattle.gauge.proofs.cavrudez_gauge_generator.Goals as goal

pub returns-in-Ok : goal.returns-in-Ok
returns-in-Ok c =
    let long : length (generator_flow c.in-Ok.masks).words ≡ c.args.count = ap (λ (f : Flow). length f.words) c.in-Ok.ensures.1 ∙ length-map-range_with_len (λ k. shake_word32 (replicate 32 0) (4 * k)) 0 c.args.count in
    subst (λ (words : ℕ). Gauged (set_of c.args.field) c.args.number c.args.shares c.args.x.now c.args.y.now c.args.out.now c.gauge_in_set.new.out words c.gauge_in_set.result) long c.gauge_in_set.ensures
