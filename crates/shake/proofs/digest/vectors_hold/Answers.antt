use Rattle.std.proofs.Common.{refl}
use Rattle.keccak.specs.Keccak.{iota, round, rounds, keccak_f}
use Rattle.shake.specs.Sponge.{byte_of, xor_byte, xor_bytes, blocks, padding, padded, absorbed, later, shake_byte, shake256}
use Rattle.shake.proofs.digest.vectors_hold.Goals as goal

pub returns : goal.returns
unfolding iota round rounds keccak_f byte_of xor_byte xor_bytes blocks padding padded absorbed later shake_byte shake256
returns c = (refl, refl)
