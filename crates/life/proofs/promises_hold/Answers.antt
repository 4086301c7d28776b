use Rattle.life.proofs.Newer.{newer_law}
use Rattle.life.proofs.Places.{places_law, numbers_law}
use Rattle.life.proofs.Alike.{alike_law}
use Rattle.life.proofs.promises_hold.Goals as goal

pub returns : goal.returns
returns c = record { newer = newer_law; places = places_law; alike = alike_law; numbered = numbers_law }
