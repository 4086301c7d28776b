use Rattle.std.proofs.Common.{ap}
use Rattle.feed.proofs.Starting.{started}
use Rattle.feed.proofs.Feed.checked.Goals as goal
use Rattle.feed.specs.Feed.{feed_flow}

pub returns : goal.returns
returns c =
    let e = c.start.ensures in
    started c.start.result c.args.cutoff.value (feed_flow c.args.self) _ (ap feed_flow c.in_ok-below.ensures.ok) e.cutoff e.fresh.0 e.fresh.1 e.fresh.2 c.args.cutoff.low
