-- A signing on a card of the small set in two shares, as an independent model made it: a first attempt that is rejected and a second one
-- that passes, each with a candidate that is refused. And how it ends with one mask word less, with no further try, with too few nonce
-- words, and where the masks end before each step.
use Rattle.std.specs.Prelude.{◌≡◌, ℕ, ◌*◌, List, [], ◌∷◌, ◌++◌, take, pos, negsuc, replicate}
use Rattle.params.specs.Params.{set_s}
use Rattle.plain.specs.Run.{Key, Outcome, signed, nonces_ended, masks_ended, all_failed, passed, rejected, unfinished, Attempt, Run, counts_of, sign}
use Rattle.record.specs.Layout.{Content, encode}
use Rattle.refusal.specs.declared.fault.Counts.{Counts}
use Rattle.refusal.specs.declared.fault.Step.{Step}
use Rattle.refusal.specs.declared.fault.Step.TheVariants.{Candidate, Conversion, Commit, Check, Open}
use Rattle.words.specs.Flow.{from}
use Rattle.words.specs.declared.Mark.TheVariants.{Spent, Unhealthy}

-- a = 61 + 8x + 90x² + 35x³, s1 = 1 − x² + x³ and s2 = −x + x² + x³
abbrev key : Key
key = record { a = 61 ∷ 8 ∷ 90 ∷ 35 ∷ []; s1 = 1 ∷ 0 ∷ 96 ∷ 1 ∷ []; s2 = 0 ∷ 96 ∷ 1 ∷ 1 ∷ [] }

abbrev digest : List ℕ
digest =
    0xDA ∷ 0xD9 ∷ 0xAD ∷ 0xE6 ∷ 0x75 ∷ 0x0E ∷ 0xC9 ∷ 0xB4 ∷ 0x6D ∷ 0x9E ∷ 0x12 ∷ 0x81 ∷ 0x2B ∷ 0x53 ∷ 0x88 ∷ 0xB4
    ∷ 0xBA ∷ 0x78 ∷ 0xF4 ∷ 0x3E ∷ 0x20 ∷ 0x42 ∷ 0x64 ∷ 0x86 ∷ 0x60 ∷ 0xD8 ∷ 0x92 ∷ 0xE3 ∷ 0x54 ∷ 0xDE ∷ 0x46 ∷ 0xD3 ∷ []

-- the candidates 19, 28, 11, 20, 0, 7, 7, 20, 0 in pairs of words: 28 is refused
abbrev first_words : List ℕ
first_words =
    3639915378 ∷ 3464210657 ∷ 1550541524 ∷ 459136104 ∷ 3795096572 ∷ 1960916727 ∷ 2582401695 ∷ 2677995019 ∷ 2951508522
    ∷ 1584219882 ∷ 1234003348 ∷ 4083750547 ∷ 2930481448 ∷ 3306174735 ∷ 1854743077 ∷ 1573586385 ∷ 3292234054 ∷ 4016096166 ∷ []

-- and 7, 4, 16, 5, 24, 8, 16, 9, 8: 24 is refused
abbrev second_words : List ℕ
second_words =
    2279892564 ∷ 1021583507 ∷ 5511260 ∷ 1950252504 ∷ 2232961497 ∷ 3858494825 ∷ 4036238173 ∷ 2073288536 ∷ 1408525079
    ∷ 4189151727 ∷ 995164759 ∷ 3906237119 ∷ 1288954916 ∷ 3901212276 ∷ 2939397880 ∷ 1753806513 ∷ 677196677 ∷ 3228740397 ∷ []

-- three words more: a group of two, and one that is cut short
abbrev last_words : List ℕ
last_words = 1600113980 ∷ 1381241514 ∷ 2844437340 ∷ []

abbrev all_words : List ℕ
all_words = first_words ++ (second_words ++ last_words)

-- the first attempt's z1 = 9 + 2x + 9x² − 10x³ lies out of reach
abbrev far : Content
far = record {
  counter = 1;
  digest = digest;
  z = pos 9 ∷ pos 2 ∷ pos 9 ∷ negsuc 9 ∷ negsuc 3 ∷ negsuc 3 ∷ pos 10 ∷ negsuc 7 ∷ [];
  c = 1 ∷ 1 ∷ 0 ∷ 0 ∷ [];
}

-- the second one's z1 = −4 − 6x + 6x² − 6x³, z2 = −2 + 8x − x³ and c = −x² − x³
abbrev near : Content
near = record {
  counter = 1;
  digest = digest;
  z = negsuc 3 ∷ negsuc 5 ∷ pos 6 ∷ negsuc 5 ∷ negsuc 1 ∷ pos 8 ∷ pos 0 ∷ negsuc 0 ∷ [];
  c = 0 ∷ 0 ∷ 96 ∷ 96 ∷ [];
}

abbrev first : Attempt
first = record { words = first_words; fate = rejected far }

abbrev second : Attempt
second = record { words = second_words; fate = passed near }

-- a signing with these nonce words and so many tries and mask words; its masks end with the other mark
abbrev run : List ℕ → (tries masks : ℕ) → Run
run words tries masks = sign set_s key 2 digest 0 tries (from words Spent) (from (replicate masks 0) Unhealthy)

-- how it ends, and its counts
abbrev Told : Run → Outcome → Counts → Type 0
Told r o counts = (r.outcome ≡ o) × (counts_of r ≡ counts)

-- the masks end before a step of an attempt: all of them are counted
abbrev Ends : (masks : ℕ) → Step → (attempts candidates : ℕ) → Type 0
Ends masks step attempts candidates =
    Told (run all_words 2 masks) (masks_ended (record { mark = Unhealthy; attempt = attempts; step = step }))
    (record { attempts = attempts; candidates = candidates; nonces = 2 * candidates; masks = masks })

pub record Signing : Type 0 where
  pub passes_second : run all_words 2 3268 ≡ record { outcome = signed near; attempts = first ∷ second ∷ []; seen = 18; drawn = 36; spent = 3268; left = last_words }
  pub written : encode set_s near ≡ 0x35 ∷ 0x00 ∷ 0x00 ∷ 0x00 ∷ 0x00 ∷ 0x47 ∷ 0x01 ∷ 0x00 ∷ (digest ++ (0xFC ∷ 0xFF ∷ 0xFA ∷ 0xFF ∷ 0x06 ∷ 0x00 ∷ 0xFA ∷ 0xFF ∷ 0xFE ∷ 0xFF ∷ 0x08 ∷ 0x00 ∷ 0x00 ∷ 0x00 ∷ 0xFF ∷ 0xFF ∷ 0xF0 ∷ []))
  pub no_further_try : run all_words 1 3268 ≡ record { outcome = all_failed; attempts = first ∷ []; seen = 9; drawn = 18; spent = 1626; left = second_words ++ last_words }
  -- 25 words: the 13th group is cut short, which is for the second attempt's fourth coefficient
  pub nonces_cut : run (take 25 all_words) 2 3268 ≡ record {
    outcome = nonces_ended (record { mark = Spent; attempt = 2; step = Candidate (record { polynomial = 1; index = 3 }) });
    attempts = first ∷ record { words = take 7 second_words; fate = unfinished } ∷ [];
    seen = 12;
    drawn = 25;
    spent = 1980;
    left = [];
  }
  -- one mask word short of each step
  pub short_of_candidate : Ends 16 (Candidate (record { polynomial = 1; index = 0 })) 1 1
  pub short_of_conversion : Ends 117 (Conversion (record { polynomial = 1; index = 0 })) 1 1
  pub short_of_next : Ends 134 (Candidate (record { polynomial = 1; index = 1 })) 1 2
  pub short_of_commit : Ends 968 Commit 1 9
  pub short_of_check : Ends 1625 Check 1 9
  pub short_of_second : Ends 1642 (Candidate (record { polynomial = 1; index = 0 })) 2 10
  pub short_of_open : Ends 3267 Open 2 18
