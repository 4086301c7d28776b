-- The worked examples, on a card of the small set: n = 4 and p = 97. Each row is a fact about the definitions.
use Rattle.std.specs.Prelude.{List, [], ◌∷◌, map, length, ◌≡◌, true, false, ℕ, ◌+◌, ◌%◌, ℤ, pos, negsuc, Some, None, replicate}
use Rattle.challenge.specs.Challenge.{filled, stream}
use Rattle.params.specs.Params.{reach, set_i, set_s}
use Rattle.plain.specs.Costs.{cost}
use Rattle.plain.specs.Nonces.{bits, candidates, nonces}
use Rattle.plain.specs.Run.{at}
use Rattle.record.specs.Layout.{code_of, kind, packed, size}
use Rattle.record.specs.Reading.{all_near}
use Rattle.refusal.specs.declared.fault.Step.TheVariants.{Candidate, Conversion, Commit, Check, Open}
use Rattle.ring.specs.Ring.{centre, plus, product}
use Rattle.shake.specs.Sponge.{shake256, shake_word32}
use Rattle.shares.specs.Conjoined.{conjoined}
use Rattle.shares.specs.Groups.{residue_rule, word_of, word_rule}
use Rattle.shares.specs.Refresh.{refreshed, rows}
use Rattle.till.specs.Verdict.{above}
use Rattle.words.specs.Flow.{Flow}
use Rattle.words.specs.Generators.{stretched}
use Rattle.words.specs.Health.{checked}
use Rattle.words.specs.declared.Mark.TheVariants.{Spent, Unhealthy}

abbrev p : ℕ
p = set_s.p

-- s1·c + y1, as integers, for s1 = 1 − x² and c = 1 − x³
abbrev answer : List ℕ → List ℤ
answer y1 = map (centre p) (plus p (product p (1 ∷ 0 ∷ 96 ∷ 0 ∷ []) (1 ∷ 0 ∷ 0 ∷ 96 ∷ [])) y1)

-- the mask words of the steps that draw any, at m shares
abbrev costs : ℕ → List ℕ
costs m = cost set_s m (Candidate (at set_s 0)) ∷ cost set_s m (Conversion (at set_s 0)) ∷ cost set_s m Commit ∷ cost set_s m Check ∷ cost set_s m Open ∷ []

-- what a health check with cutoff 3 lets through of a list, and the mark behind that
abbrev healthy : List ℕ → Flow
healthy ws = checked 3 0 0 ws Spent []

pub record Table : Type 0 where
  -- x³ · x = −1
  pub x_to_four : product p (0 ∷ 0 ∷ 0 ∷ 1 ∷ []) (0 ∷ 1 ∷ 0 ∷ 0 ∷ []) ≡ 96 ∷ 0 ∷ 0 ∷ 0 ∷ []
  -- (1 + 2x) · (3 + 5x³) = −7 + 6x + 5x³
  pub product_row : product p (1 ∷ 2 ∷ 0 ∷ 0 ∷ []) (3 ∷ 0 ∷ 0 ∷ 5 ∷ []) ≡ 90 ∷ 6 ∷ 0 ∷ 5 ∷ []
  -- 48 centres to 48, and 49 to −48
  pub highest_positive : centre p 48 ≡ pos 48
  pub lowest_negative : centre p 49 ≡ negsuc 47
  -- shares 5 and 90 of a residue, refreshed with the mask 10
  pub residues_refreshed : refreshed (residue_rule p) (rows 0 2) (0 ∷ 10 ∷ []) (5 ∷ 90 ∷ []) ≡ 15 ∷ 80 ∷ []
  -- shares 0F and 33 of a word, refreshed with the mask FF
  pub words_refreshed : refreshed word_rule (rows 0 2) (0xFF ∷ []) (0x0F ∷ 0x33 ∷ []) ≡ 0xF0 ∷ 0xCC ∷ []
  -- a mask from the words 0 and 98, and from 1 and 0
  pub mask_of_low : (residue_rule p).mask (0 ∷ 98 ∷ []) ≡ 1
  pub mask_of_high : (residue_rule p).mask (1 ∷ 0 ∷ []) ≡ 35
  -- the first two words of a generator whose seed is zeros
  pub generated : stretched (replicate 32 0) 0 2 ≡ 0x827C97F5 ∷ 0x636A5483 ∷ []
  -- the challenge 1 − x² is one byte
  pub challenge_byte : packed (map code_of (1 ∷ 0 ∷ 96 ∷ 0 ∷ [])) ≡ 0x31 ∷ []
  -- the sum modulo p of shared words: 96 + 1, and 48 + 48
  pub sum_round : (word_of (96 ∷ []) + word_of (1 ∷ [])) % p ≡ 0
  pub sum_below : (word_of (48 ∷ []) + word_of (48 ∷ [])) % p ≡ 96
  -- two shares: the nonce words 31 and 10 make a candidate that is refused, and 31 and 11 one that stands for 10
  pub candidate_refused : nonces set_s (candidates set_s 2 (31 ∷ 10 ∷ [])) ≡ []
  pub candidate_accepted : nonces set_s (candidates set_s 2 (31 ∷ 11 ∷ [])) ≡ 10 ∷ []
  -- y1 = 7 − 7x + 9x³ gives an answer within reach, and with 8 for 7 one that is not
  pub answer_near : answer (7 ∷ 90 ∷ 0 ∷ 9 ∷ []) ≡ pos 8 ∷ negsuc 7 ∷ negsuc 0 ∷ pos 8 ∷ []
  pub passes_near : all_near set_s (answer (7 ∷ 90 ∷ 0 ∷ 9 ∷ [])) ≡ true
  pub fails_far : all_near set_s (answer (8 ∷ 90 ∷ 0 ∷ 9 ∷ [])) ≡ false
  -- candidate, conversion, commit, check and opening at two shares, and at one
  pub costs_of_two : costs 2 ≡ 17 ∷ 101 ∷ 8 ∷ 657 ∷ 16 ∷ []
  pub costs_of_one : costs 1 ≡ 0 ∷ 0 ∷ 0 ∷ 0 ∷ 0 ∷ []
  -- and at three and eight
  pub costs_of_three : costs 3 ≡ 51 ∷ 400 ∷ 24 ∷ 2763 ∷ 48 ∷ []
  pub costs_of_eight : costs 8 ≡ 476 ∷ 8330 ∷ 224 ∷ 62748 ∷ 448 ∷ []
  -- three shares: the masks 10, 20 and 30 go to the pairs (0, 1), (0, 2) and (1, 2)
  pub three_refreshed : refreshed (residue_rule p) (rows 0 3) (0 ∷ 10 ∷ 0 ∷ 20 ∷ 0 ∷ 30 ∷ []) (1 ∷ 2 ∷ 3 ∷ []) ≡ 31 ∷ 22 ∷ 50 ∷ []
  -- SecAnd of two shares with the word FF, and of three with the words 100, 200 and 400
  pub two_conjoined : conjoined 2 (0x0F ∷ 0x33 ∷ []) (0x55 ∷ 0xF0 ∷ []) (0xFF ∷ []) ≡ 0xFA ∷ 0xDE ∷ []
  pub three_conjoined : conjoined 3 (0x0F ∷ 0x33 ∷ 0x5A ∷ []) (0x55 ∷ 0xF0 ∷ 0x3F ∷ []) (0x100 ∷ 0x200 ∷ 0x400 ∷ []) ≡ 0x305 ∷ 0x521 ∷ 0x626 ∷ []
  -- SHAKE256 of 200 bytes A3, of the standard's examples: the first bytes, and a word behind the first block; and of messages that leave a
  -- block one byte short and that fill it
  pub hash_of_two_blocks : shake256 (replicate 200 0xA3) 8 ≡ 0xCD ∷ 0x8A ∷ 0x92 ∷ 0x0E ∷ 0xD1 ∷ 0x41 ∷ 0xAA ∷ 0x04 ∷ []
  pub hash_goes_on : shake_word32 (replicate 200 0xA3) 136 ≡ 0x5AB82B51
  pub hash_one_short : shake_word32 (replicate 135 0) 0 ≡ 0x70096C4A
  pub hash_of_full_block : shake_word32 (replicate 136 0) 0 ≡ 0x837B94EA
  -- a challenge from the words 5, 8001 and 8002: the second tells a position that is taken. And where the words end too soon
  pub taken_skipped : filled set_s 2 (5 ∷ 0x8001 ∷ 0x8002 ∷ []) (0 ∷ 0 ∷ 0 ∷ 0 ∷ []) ≡ 0 ∷ 1 ∷ 96 ∷ 0 ∷ []
  pub words_end : filled set_s 2 (5 ∷ 9 ∷ []) (0 ∷ 0 ∷ 0 ∷ 0 ∷ []) ≡ 0 ∷ 1 ∷ 0 ∷ 0 ∷ []
  pub words_read : length (stream []) ≡ 512
  -- a health check with cutoff 3
  pub third_withheld : healthy (7 ∷ 7 ∷ 7 ∷ []) ≡ record { words = 7 ∷ 7 ∷ []; mark = Unhealthy; origin = [] }
  pub run_broken : healthy (7 ∷ 7 ∷ 8 ∷ 7 ∷ 7 ∷ []) ≡ record { words = 7 ∷ 7 ∷ 8 ∷ 7 ∷ 7 ∷ []; mark = Spent; origin = [] }
  pub zeros_at_first : healthy (0 ∷ 0 ∷ 0 ∷ []) ≡ record { words = 0 ∷ 0 ∷ []; mark = Unhealthy; origin = [] }
  -- a till whose last counter is 5 takes 6 and 9 and not 5, and after 9 not 7; one with no last counter takes 0
  pub same_counter : above (Some 5) 5 ≡ false
  pub next_counter : above (Some 5) 6 ≡ true
  pub later_counter : above (Some 6) 9 ≡ true
  pub earlier_counter : above (Some 9) 7 ≡ false
  pub first_counter : above None 0 ≡ true
  -- the numbers that both sets come to: reach, bits of a candidate, a record's bytes and its kind
  pub of_small : (reach set_s ≡ 8) × (bits set_s ≡ 5) × (size set_s ≡ 57) × (kind set_s ≡ 0x4700)
  pub of_field : (reach set_i ≡ 16352) × (bits set_i ≡ 16) × (size set_i ≡ 2216) × (kind set_i ≡ 0x4701)
