-- What a refusal tells: its number, and then what it names.
use Rattle.std.specs.Prelude.{ℕ, List, [], ◌++◌, codes, decimal}
use Rattle.words.specs.Marks.{mark_number}
use Rattle.refusal.specs.declared.Area.{Area}
use Rattle.refusal.specs.declared.Area.TheVariants.{Public, Key}
use Rattle.refusal.specs.declared.Refusal.{Refusal}
use Rattle.refusal.specs.declared.Refusal.TheVariants.{ShareCount, AreaSize, NotResidue, NotTernary, Tries, RecordSize, Kind, OutOfReach, UnusedCode, OtherChallenge, SourceRange, CounterEnd, NoncesEndedAt, MasksEnded, MasksEndedAt, TriesFailed, Stale}
use Rattle.refusal.specs.declared.fault.Coefficient.{Coefficient}
use Rattle.refusal.specs.declared.fault.Counts.{Counts}
use Rattle.refusal.specs.declared.fault.Fault.{Fault}
use Rattle.refusal.specs.declared.fault.Step.{Step}
use Rattle.refusal.specs.declared.fault.Step.TheVariants.{Candidate, Conversion, Commit, Check, Open}

abbrev pub number_of : Refusal → ℕ
number_of ShareCount = 1
number_of AreaSize = 2
number_of (NotResidue a i) = 3
number_of (NotTernary i) = 4
number_of Tries = 5
number_of RecordSize = 6
number_of Kind = 7
number_of (OutOfReach i) = 8
number_of (UnusedCode i) = 9
number_of OtherChallenge = 10
number_of SourceRange = 11
number_of CounterEnd = 20
number_of (NoncesEndedAt f c) = 21
number_of (MasksEnded m) = 22
number_of (MasksEndedAt f c) = 22
number_of (TriesFailed c) = 23
number_of Stale = 24

abbrev pub area_name : Area → List ℕ
area_name Public = codes "public"
area_name Key = codes "key"

-- what a signing took
abbrev pub counts_text : Counts → List ℕ
counts_text c = codes "attempts " ++ (decimal c.attempts ++ (codes " candidates " ++ (decimal c.candidates ++ (codes " nonces " ++ (decimal c.nonces ++ (codes " masks " ++ decimal c.masks))))))

-- a coefficient of a nonce, and the same behind a step's number
abbrev pub coefficient_told : Coefficient → List ℕ
coefficient_told at = codes "polynomial " ++ (decimal at.polynomial ++ (codes " coefficient " ++ decimal at.index))

abbrev pub coefficient_text : Coefficient → List ℕ
coefficient_text at = codes " " ++ coefficient_told at

-- a step's number, and for the first two the coefficient that was drawn
abbrev pub step_text : Step → List ℕ
step_text (Candidate at) = decimal 1 ++ coefficient_text at
step_text (Conversion at) = decimal 2 ++ coefficient_text at
step_text Commit = decimal 3
step_text Check = decimal 5
step_text Open = decimal 6

abbrev pub fault_text : Fault → List ℕ
fault_text f = codes "mark " ++ (decimal (mark_number f.mark) ++ (codes " attempt " ++ (decimal f.attempt ++ (codes " step " ++ step_text f.step))))

-- what it names, each behind its word
abbrev pub named : Refusal → List ℕ
named (NotResidue a i) = codes " area " ++ (area_name a ++ (codes " index " ++ decimal i))
named (NotTernary i) = codes " index " ++ decimal i
named (OutOfReach i) = codes " index " ++ decimal i
named (UnusedCode i) = codes " index " ++ decimal i
named (MasksEnded m) = codes " mark " ++ decimal (mark_number m)
named (NoncesEndedAt f c) = codes " " ++ (fault_text f ++ (codes " " ++ counts_text c))
named (MasksEndedAt f c) = codes " " ++ (fault_text f ++ (codes " " ++ counts_text c))
named (TriesFailed c) = codes " " ++ counts_text c
named ShareCount = []
named AreaSize = []
named Tries = []
named RecordSize = []
named Kind = []
named OtherChallenge = []
named SourceRange = []
named CounterEnd = []
named Stale = []

-- the text by which a program tells it
abbrev pub told : Refusal → List ℕ
told r = decimal (number_of r) ++ named r
