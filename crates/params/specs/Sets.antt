-- Both sets meet the conditions: each is a fact about numerals, found by computing.
use Rattle.std.specs.Prelude.{refl}
use Rattle.std.proofs.Common.{lit<, lit≤}
use Rattle.params.specs.Params.{Sound, set_s, set_i}

pub sound_s : Sound set_s
sound_s = record { log = 2; n_power = refl; n_least = lit≤ tt; n_most = lit≤ tt; p_small = lit< tt; p_splits = refl; alpha_some = lit< tt; alpha_below_k = lit< tt; alpha_fits = lit≤ tt; k_below_p = lit< tt; reach_small = lit< tt; number_byte = lit< tt }

pub sound_i : Sound set_i
sound_i = record { log = 9; n_power = refl; n_least = lit≤ tt; n_most = lit≤ tt; p_small = lit< tt; p_splits = refl; alpha_some = lit< tt; alpha_below_k = lit< tt; alpha_fits = lit≤ tt; k_below_p = lit< tt; reach_small = lit< tt; number_byte = lit< tt }
