-- When bytes are refused as a record, and what a reader answers.
use Rattle.std.specs.Prelude.{◌≡◌, ℕ, ◌+◌, ◌-◌, ◌*◌, Bool, true, not, ◌&&◌, List, [], ◌∷◌, length, take, drop, ℤ, Some, None, Ok, Err, Option, Result, ◌==◌, nat_eq, nat_lt, unsigned_abs}
use Rattle.std.specs.Borrow.{Bor}
use Rattle.params.specs.Params.{Params, reach}
use Rattle.refusal.specs.declared.Refusal.{Refusal}
use Rattle.refusal.specs.declared.Refusal.TheVariants.{RecordSize, Kind, OutOfReach, UnusedCode}
use Rattle.record.specs.declared.view.Record.{Record}
use Rattle.record.specs.Layout.{size, kind, num2, num4, digest_part, z_part, c_part, z_of, unpacked, encode, decode}
use Rattle.search.specs.First.{first_at}
use Rattle.refusal.specs.Tests.{unless, at_index, first_hit}

-- an integer further from 0 than a signature's coefficient may lie
abbrev pub far : Params → ℤ → Bool
far s z = nat_lt (reach s) (unsigned_abs z)

-- no integer of the list is far
abbrev pub all_near : Params → List ℤ → Bool
all_near s [] = true
all_near s (z ∷ zs) = not (far s z) && all_near s zs

-- the tests of a record
abbrev pub size_test : Params → List ℕ → Option Refusal
size_test s bytes = unless (length bytes == size s && num4 bytes 0 == size s - 4) RecordSize

abbrev pub kind_test : Params → List ℕ → Option Refusal
kind_test s bytes = unless (num2 bytes 4 == kind s) Kind

abbrev pub reach_test : Params → List ℕ → Option Refusal
reach_test s bytes = at_index OutOfReach (first_at (far s) (z_of (z_part s bytes)))

abbrev pub code_test : Params → List ℕ → Option Refusal
code_test s bytes = at_index UnusedCode (first_at (λ code. nat_eq code 2) (unpacked (c_part s bytes)))

-- in their order
abbrev pub record_tests : Params → List ℕ → List (Option Refusal)
record_tests s bytes = size_test s bytes ∷ kind_test s bytes ∷ reach_test s bytes ∷ code_test s bytes ∷ []

-- the bytes behind the kind of a record that passes the first two tests
abbrev pub Opens : Params → List ℕ → Result (Bor (List ℕ)) Refusal → Type 0
Opens s bytes (Ok body) = (size_test s bytes ≡ None) × (kind_test s bytes ≡ None) × (length bytes ≡ size s) × (body.now ≡ drop 6 bytes)
Opens s bytes (Err e) = first_hit (size_test s bytes ∷ kind_test s bytes ∷ []) ≡ Some e

-- the parts of a body, each where it lies
abbrev pub Parts : Params → List ℕ → Record → Type 0
Parts s body r =
    (r.counter ≡ num2 body 0)
    × (r.digest.now ≡ take 32 (drop 2 body))
    × (r.z.now ≡ take (4 * s.n) (drop 34 body))
    × (r.challenge.now ≡ drop (34 + 4 * s.n) body)

-- the reader answers the parts of a record that passes, or the first refusal; what it accepts is what the writer would write
abbrev pub Reads : Params → List ℕ → Result Record Refusal → Type 0
Reads s bytes (Ok r) =
    (first_hit (record_tests s bytes) ≡ None)
    × (r.counter ≡ num2 bytes 6)
    × (r.digest.now ≡ digest_part bytes)
    × (r.z.now ≡ z_part s bytes)
    × (r.challenge.now ≡ c_part s bytes)
    × (encode s (decode s bytes) ≡ bytes)
Reads s bytes (Err e) = first_hit (record_tests s bytes) ≡ Some e
