use Rattle.words.proofs.Checks.{steady_from_start}
use Rattle.words.proofs.health.Health.new.Goals as goal

pub returns : goal.returns
returns g c =
    let e = c.start.ensures in
    let f = e.fresh in
    rw (e.cutoff, f.0, f.1, f.2) (steady_from_start c.args.cutoff.value (g.S.Source.flow c.args.source) c.args.cutoff.low)
