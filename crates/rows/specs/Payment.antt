-- A payment on a card of the small set, which an independent model made: its record, byte for byte, and what a till answers
-- to it, and to it once it is damaged in two places.
use Rattle.std.specs.Prelude.{◌≡◌, ℕ, List, [], ◌∷◌, ◌++◌, drop, pos, negsuc, Some, None, Ok, Err, Option, Result, slice_set}
use Rattle.params.specs.Params.{set_s}
use Rattle.record.specs.Layout.{Content, encode}
use Rattle.refusal.specs.declared.Area.TheVariants.{Public}
use Rattle.refusal.specs.declared.Refusal.{Refusal}
use Rattle.refusal.specs.declared.Refusal.TheVariants.{AreaSize, NotResidue, RecordSize, Kind, OutOfReach, UnusedCode, OtherChallenge, Stale}
use Rattle.till.specs.Verdict.{last_after, verdict}
use Rattle.till.specs.declared.payment.Payment.{Payment as Paid}

-- a and t
abbrev key : List ℕ
key = 85 ∷ 71 ∷ 73 ∷ 91 ∷ 93 ∷ 77 ∷ 66 ∷ 81 ∷ []

abbrev digest : List ℕ
digest =
    0xDA ∷ 0xD9 ∷ 0xAD ∷ 0xE6 ∷ 0x75 ∷ 0x0E ∷ 0xC9 ∷ 0xB4 ∷ 0x6D ∷ 0x9E ∷ 0x12 ∷ 0x81 ∷ 0x2B ∷ 0x53 ∷ 0x88 ∷ 0xB4
    ∷ 0xBA ∷ 0x78 ∷ 0xF4 ∷ 0x3E ∷ 0x20 ∷ 0x42 ∷ 0x64 ∷ 0x86 ∷ 0x60 ∷ 0xD8 ∷ 0x92 ∷ 0xE3 ∷ 0x54 ∷ 0xDE ∷ 0x46 ∷ 0xD3 ∷ []

-- z1 = −7 + 3x − x² + 3x³, z2 = 5 − 7x + 7x² − 4x³ and c = −x + x²
abbrev content : Content
content = record {
  counter = 1;
  digest = digest;
  z = negsuc 6 ∷ pos 3 ∷ negsuc 0 ∷ pos 3 ∷ pos 5 ∷ negsuc 6 ∷ pos 7 ∷ negsuc 3 ∷ [];
  c = 0 ∷ 96 ∷ 1 ∷ 0 ∷ [];
}

-- length, kind and counter, the digest, z1 and z2, and the challenge
abbrev bytes : List ℕ
bytes =
    0x35 ∷ 0x00 ∷ 0x00 ∷ 0x00 ∷ 0x00 ∷ 0x47 ∷ 0x01 ∷ 0x00
    ∷ (digest ++ (0xF9 ∷ 0xFF ∷ 0x03 ∷ 0x00 ∷ 0xFF ∷ 0xFF ∷ 0x03 ∷ 0x00 ∷ 0x05 ∷ 0x00 ∷ 0xF9 ∷ 0xFF ∷ 0x07 ∷ 0x00 ∷ 0xFC ∷ 0xFF ∷ 0x1C ∷ []))

-- the record of the other set, with 9 for −4, with a code that means nothing, and with another digest
abbrev other_kind : List ℕ → List ℕ
other_kind bs = slice_set bs 4 0x01

abbrev far : List ℕ → List ℕ
far bs = slice_set (slice_set bs 54 0x09) 55 0x00

abbrev uncoded : List ℕ → List ℕ
uncoded bs = slice_set bs 56 0x9C

abbrev other_digest : List ℕ → List ℕ
other_digest bs = slice_set bs 8 0xDB

-- what a till answers, under this key and after this counter
abbrev answer : Option ℕ → List ℕ → Result Paid Refusal
answer last bs = verdict set_s key last bs

pub record Payment : Type 0 where
  pub written : encode set_s content ≡ bytes
  pub accepted : answer None bytes ≡ Ok (record { counter = 1; digest = digest })
  pub again : answer (Some 1) bytes ≡ Err Stale
  -- the last counter that the till then holds
  pub moves : last_after None (answer None bytes) ≡ Some 1
  pub stays : last_after (Some 1) (answer (Some 1) bytes) ≡ Some 1
  -- the tests in their order: of two that hit, the first is told
  pub key_size_then_word : verdict set_s (key ++ (97 ∷ [])) None bytes ≡ Err AreaSize
  pub key_first : verdict set_s (drop 1 key ++ (97 ∷ [])) None [] ≡ Err (NotResidue Public 7)
  pub size_then_kind : answer None (other_kind bytes ++ (0x00 ∷ [])) ≡ Err RecordSize
  pub kind_then_reach : answer None (other_kind (far bytes)) ≡ Err Kind
  pub reach_then_code : answer None (far (uncoded bytes)) ≡ Err (OutOfReach 7)
  pub code_then_challenge : answer None (uncoded (other_digest bytes)) ≡ Err (UnusedCode 3)
  pub challenge_then_counter : answer (Some 1) (other_digest bytes) ≡ Err OtherChallenge
