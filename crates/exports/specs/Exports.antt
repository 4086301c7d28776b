-- What the exported functions answer, and what they leave.
use Rattle.std.specs.Prelude.{ℕ, Bool, cond, not, ◌&&◌, List, length, is_some, Some, None, Ok, Err, Option, Result, ◌==◌, nat_le, nat_lt, replicate}
use Rattle.exports.specs.declared.till_calls.TillAnswer.{TillAnswer}
use Rattle.params.specs.Params.{set_i}
use Rattle.refusal.specs.Told.{number_of}
use Rattle.refusal.specs.declared.Refusal.{Refusal}
use Rattle.refusal.specs.declared.Refusal.TheVariants.{NotResidue, OutOfReach, UnusedCode}
use Rattle.ring.specs.Ring.{product}
use Rattle.search.specs.First.{first_at}
use Rattle.till.specs.Verdict.{verdict}
use Rattle.till.specs.declared.payment.Payment.{Payment}

-- n words, and none is the modulus or more
abbrev pub is_polynomial : List ℕ → Bool
is_polynomial words = length words == set_i.n && not (is_some (first_at (nat_le set_i.p) words))

-- both factors are polynomials, and the area for the product has its size
abbrev pub multiplies : List ℕ → List ℕ → List ℕ → Bool
multiplies out a b = length out == set_i.n && (is_polynomial a && is_polynomial b)

abbrev pub product_status : List ℕ → List ℕ → List ℕ → ℕ
product_status out a b = cond (multiplies out a b) 0 1

-- what the area holds afterwards
abbrev pub product_left : List ℕ → List ℕ → List ℕ → List ℕ
product_left out a b = cond (multiplies out a b) (product set_i.p a b) out

-- a number too large for a counter stands for none
abbrev pub last_counter : ℕ → Option ℕ
last_counter number = cond (nat_lt number 65536) (Some number) None

-- 0 for an accepted record, else the refusal's number
abbrev pub check_status : Result Payment Refusal → ℕ
check_status (Ok p) = 0
check_status (Err e) = number_of e

-- and back: the number that stands for a counter, or for none
abbrev pub last_number : Option ℕ → ℕ
last_number None = 65536
last_number (Some counter) = counter

-- what a till of set I answers whose last counter stands as a number
abbrev pub verdict_at : ℕ → List ℕ → List ℕ → Result Payment Refusal
verdict_at last key bytes = verdict set_i key (last_counter last) bytes

-- the index that a till's refusal names; 0 where it names none
abbrev pub index_named : Refusal → ℕ
index_named (NotResidue area index) = index
index_named (OutOfReach index) = index
index_named (UnusedCode index) = index
index_named _ = 0

-- what a verdict tells beside its number: what an accepted record paid, or the index that a refusal names
abbrev pub answer_of : Result Payment Refusal → TillAnswer
answer_of (Ok p) = record { index = 0; counter = p.counter; digest = p.digest }
answer_of (Err e) = record { index = index_named e; counter = 0; digest = replicate 32 0 }
