use mathlib.Core.Path.{refl}
use Rattle.keccak.specs.Keccak.{iota, round, rounds, keccak_f}
use Rattle.shake.specs.Sponge.{byte_of, xor_byte, xor_bytes, blocks, padding, padded, absorbed, later, shake_byte, shake_word, shake256}
use Rattle.challenge.specs.Challenge.{challenge, filled, stream}
use Rattle.plain.specs.Costs.{cost}
use Rattle.plain.specs.Nonces.{bits, bits_from, candidate, coefficient, cut_short, whole}
use Rattle.plain.specs.Run.{charge, choose, closed, consider, finish, sign}
use Rattle.shares.specs.Refresh.{pairs}
use Rattle.rows.proofs.rows_hold.Goals as goal

pub returns-clause-table : goal.returns-clause-table
unfolding bits bits_from candidate coefficient cost pairs whole iota round rounds keccak_f byte_of xor_byte xor_bytes blocks padding padded absorbed later shake_byte shake_word shake256 filled stream
returns-clause-table c = record {
  x_to_four = refl;
  product_row = refl;
  highest_positive = refl;
  lowest_negative = refl;
  residues_refreshed = refl;
  words_refreshed = refl;
  mask_of_low = refl;
  mask_of_high = refl;
  generated = refl;
  challenge_byte = refl;
  sum_round = refl;
  sum_below = refl;
  candidate_refused = refl;
  candidate_accepted = refl;
  answer_near = refl;
  passes_near = refl;
  fails_far = refl;
  costs_of_two = refl;
  costs_of_one = refl;
  costs_of_three = refl;
  costs_of_eight = refl;
  three_refreshed = refl;
  two_conjoined = refl;
  three_conjoined = refl;
  hash_of_two_blocks = refl;
  hash_goes_on = refl;
  hash_one_short = refl;
  hash_of_full_block = refl;
  taken_skipped = refl;
  words_end = refl;
  words_read = refl;
  third_withheld = refl;
  run_broken = refl;
  zeros_at_first = refl;
  same_counter = refl;
  next_counter = refl;
  later_counter = refl;
  earlier_counter = refl;
  first_counter = refl;
  of_small = (refl, refl, refl, refl);
  of_field = (refl, refl, refl, refl);
}

pub returns-clause-payment : goal.returns-clause-payment
unfolding iota round rounds keccak_f byte_of xor_byte xor_bytes blocks padding padded absorbed later shake_byte shake_word challenge filled stream
returns-clause-payment c = record {
  written = refl;
  accepted = refl;
  again = refl;
  moves = refl;
  stays = refl;
  key_size_then_word = refl;
  key_first = refl;
  size_then_kind = refl;
  kind_then_reach = refl;
  reach_then_code = refl;
  code_then_challenge = refl;
  challenge_then_counter = refl;
}

pub returns-clause-signing : goal.returns-clause-signing
unfolding iota round rounds keccak_f byte_of xor_byte xor_bytes blocks padding padded absorbed later shake_byte shake_word challenge filled stream bits bits_from candidate coefficient cost pairs whole cut_short closed choose charge consider finish sign
returns-clause-signing c = record {
  passes_second = refl;
  written = refl;
  no_further_try = refl;
  nonces_cut = refl;
  short_of_candidate = (refl, refl);
  short_of_conversion = (refl, refl);
  short_of_next = (refl, refl);
  short_of_commit = (refl, refl);
  short_of_check = (refl, refl);
  short_of_second = (refl, refl);
  short_of_open = (refl, refl);
}
