-- The names of the two word sources.
use Rattle.std.specs.Prelude.{ℕ, List, codes}
use Rattle.script.specs.declared.stream.Stream.{Stream}
use Rattle.script.specs.declared.stream.Stream.TheVariants.{Nonces, Masks}

abbrev pub stream_name : Stream → List ℕ
stream_name Nonces = codes "nonces"
stream_name Masks = codes "masks"
