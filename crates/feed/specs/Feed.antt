-- What a feed has still to give.
use Rattle.std.specs.Prelude.{◌^◌, ◌≤◌, length, vec_items}
use Rattle.words.specs.Flow.{Flow}
use Rattle.words.specs.Generators.{generator_flow, generator_few}
use Rattle.words.specs.Health.{health_flow, health_few}
use Rattle.words.specs.Tapes.{tape_flow, tape_few}
use Rattle.feed.specs.declared.Feed.{Feed}
use Rattle.feed.specs.declared.Feed.TheVariants.{Tape, Stretched, Checked'}

-- each health check stands over what is below it
abbrev pub feed_flow : Feed → Flow
feed_flow (Tape t) = tape_flow (vec_items t.words) t.at
feed_flow (Stretched g) = generator_flow g
feed_flow (Checked' w p below) = health_flow w (feed_flow below)

pub feed_few : (f : Feed) → length (feed_flow f).words ≤ 2 ^ 40
feed_few (Tape t) = tape_few (vec_items t.words) t.at t.few
feed_few (Stretched g) = generator_few g
feed_few (Checked' w p below) = health_few w (feed_flow below) (feed_few below)
