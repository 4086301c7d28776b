use Rattle.std.proofs.Common.{refl}
use Rattle.polys.specs.Area.{place}
use Rattle.polys.proofs.Places.{place_inside}
use Rattle.polys.proofs.column.place.Goals as goal

pub returns : goal.returns
unfolding place
returns c = record { is = refl; inside = place_inside c.args.n c.args.m c.requires.some c.args.c c.args.i c.requires.inside }
