use Rattle.std.proofs.Common.{string_bytes}
use Rattle.refusal.specs.Told.{area_name}
use Rattle.runner.proofs.Fronts.{Ready, so_far}
use Rattle.runner.proofs.telling.put_area.Given as goal

abbrev pub invariant-words : goal.invariant-words
invariant-words g l = Ready (g.W.Write.contents l.initial.out) (g.W.Write.contents l.out) (string_bytes l.text) (so_far (area_name l.fn.area) l.words l.word-index)
