use Rattle.calls.proofs.Beginning.{begins}
use Rattle.calls.proofs.load.Goals as goal

pub returns-clause-begins : goal.returns-clause-begins
returns-clause-begins g c =
    let e = c.load.ensures in
    begins g.S.ParamSet.params g.S.ParamSet.sound c.args.shares c.args.secret.now _ _ c.args.public.now c.load.new.public c.args.key.now c.load.new.key _ _ e.loaded e.loadable e.value e.residues c.load.auto.key
