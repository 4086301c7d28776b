-- What a gadget makes of a column of shares x and one of shares y, for how many mask words; and what a call on 512 columns answers.
use Rattle.std.specs.Prelude.{◌≡◌, ℕ, ◌+◌, ◌-◌, ◌*◌, ◌%◌, ◌^◌, ◌<◌, ◌≤◌, Bool, cond, ◌⊎◌, List, map, length, Ok, Err, Result, bit_and, nat_lt}
use Rattle.params.specs.Params.{Params, reach, set_s, set_i}
use Rattle.refusal.specs.Told.{number_of as refusal_number}
use Rattle.refusal.specs.declared.Refusal.{Refusal}
use Rattle.refusal.specs.declared.Refusal.TheVariants.{ShareCount, AreaSize, Kind, SourceRange, MasksEnded}
use Rattle.shares.specs.Groups.{word_of, residue_of}
use Rattle.shares.specs.Refresh.{pairs}
use Rattle.linear.specs.Words.{constant}
use Rattle.gadgets.specs.Words.{is_below}
use Rattle.polys.specs.Area.{shares_of}
use Rattle.plain.specs.Nonces.{bits, limit}
use Rattle.gauge.specs.declared.gadget.Gadget.{Gadget}
use Rattle.gauge.specs.declared.gadget.Gadget.TheVariants.{RefreshWords, RefreshResidues, SecAnd, SecAdd, SecAddModp, ToWords, ToResidues, Open, Candidate, CheckCoefficient}

-- a gadget's number
abbrev pub number_of : Gadget → ℕ
number_of RefreshWords = 0
number_of RefreshResidues = 1
number_of SecAnd = 2
number_of SecAdd = 3
number_of SecAddModp = 4
number_of ToWords = 5
number_of ToResidues = 6
number_of Open = 7
number_of Candidate = 8
number_of CheckCoefficient = 9

-- the mask words that it takes on a column of m shares
abbrev pub cost : Gadget → ℕ → ℕ
cost RefreshWords m = 1 * pairs m
cost RefreshResidues m = 2 * pairs m
cost SecAnd m = pairs m
cost SecAdd m = 14 * pairs m
cost SecAddModp m = 32 * pairs m
cost ToWords m = m * (33 * pairs m)
cost ToResidues m = 2 * (m - 1) + (m + 1) * (33 * pairs m)
cost Open m = 2 * pairs m
cost Candidate m = 17 * pairs m
cost CheckCoefficient m = (33 * m + 16) * pairs m

-- each share cut to so few bits that it is a residue, and so is the word that they stand for
unfoldable pub small : Params → List ℕ → List ℕ
small u xs = map (λ share. share % 2 ^ (bits u - 1)) xs

-- the candidate that a column holds, and 0 where it is refused
abbrev pub accepted : Params → ℕ → ℕ
accepted u x = cond (nat_lt x (limit u)) x 0

-- what the shares z stand for that it makes of x and y
abbrev pub Gives : Params → ℕ → Gadget → List ℕ → List ℕ → List ℕ → Type 0
Gives u m RefreshWords x y z = word_of z ≡ word_of x
Gives u m RefreshResidues x y z = residue_of u.p z ≡ residue_of u.p (small u x)
Gives u m SecAnd x y z = word_of z ≡ bit_and (word_of x) (word_of y)
Gives u m SecAdd x y z = word_of z ≡ (word_of x + word_of y) % 2 ^ 32
Gives u m SecAddModp x y z = word_of z ≡ (word_of (small u x) + word_of (small u y)) % u.p
Gives u m ToWords x y z = word_of z ≡ residue_of u.p (small u x)
Gives u m ToResidues x y z = residue_of u.p z ≡ word_of (small u x)
Gives u m Open x y z = z ≡ constant m (residue_of u.p (small u x))
Gives u m Candidate x y z = word_of z ≡ accepted u (word_of x % 2 ^ bits u)
Gives u m CheckCoefficient x y z = word_of z ≡ bit_and (is_below ((residue_of u.p (small u x) + reach u) % u.p) (2 * reach u + 1)) (word_of y)

-- the same on each of 512 columns
abbrev pub Columns : Params → ℕ → Gadget → List ℕ → List ℕ → List ℕ → Type 0
Columns u m g xs ys zs = (c : ℕ) → c < 512 → Gives u m g (shares_of 512 m xs c) (shares_of 512 m ys c) (shares_of 512 m zs c)

-- areas of 512 columns of m shares
abbrev pub Sized : ℕ → List ℕ → List ℕ → List ℕ → Type 0
Sized m zs xs ys = (length zs ≡ 512 * m) × (length xs ≡ 512 * m) × (length ys ≡ 512 * m)

-- what a call leaves in the area zs' with so many mask words, or why it is refused: it leaves the area as it was, unless masks end on the way
abbrev pub GaugedBy : {A : Type 0} → Params → ℕ → ℕ → List ℕ → List ℕ → List ℕ → List ℕ → ℕ → Result A Refusal → Type 0
GaugedBy u number m xs ys zs zs' words (Ok _) = (g : Gadget) × (number_of g ≡ number) × Sized m zs xs ys × (512 * cost g m ≤ words) × Columns u m g xs ys zs'
GaugedBy u number m xs ys zs zs' words (Err Kind) = (10 ≤ number) × (zs' ≡ zs)
GaugedBy u number m xs ys zs zs' words (Err ShareCount) = ((m ≡ 0) ⊎ (8 < m)) × (zs' ≡ zs)
GaugedBy u number m xs ys zs zs' words (Err AreaSize) = (Sized m zs xs ys → ⊥) × (zs' ≡ zs)
GaugedBy u number m xs ys zs zs' words (Err SourceRange) = (2 ^ 40 < words) × (zs' ≡ zs)
GaugedBy u number m xs ys zs zs' words (Err (MasksEnded mark)) = (g : Gadget) × (number_of g ≡ number) × (words < 512 * cost g m)
GaugedBy u number m xs ys zs zs' words (Err _) = ⊥

abbrev pub status_of : {A : Type 0} → Result A Refusal → ℕ
status_of (Ok _) = 0
status_of (Err e) = refusal_number e

-- the same behind the number that a call answers
abbrev pub Gauged : Params → ℕ → ℕ → List ℕ → List ℕ → List ℕ → List ℕ → ℕ → ℕ → Type 0
Gauged u number m xs ys zs zs' words status = (ending : Result (Unit {0}) Refusal) × GaugedBy u number m xs ys zs zs' words ending × (status ≡ status_of ending)

-- the set that cards in the field use, or else the small one
abbrev pub set_of : Bool → Params
set_of field = cond field set_i set_s
