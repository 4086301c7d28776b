-- Lines that say a command are of ASCII.
use Rattle.std.proofs.Common.{inl, inr, ◌≡◌, ℕ, ◌+◌, ◌*◌, ◌/◌, ◌%◌, ◌<◌, List, [], ◌∷◌, ◌++◌, Bool, true, false, cond, nat_lt, codes, get_or, length, ℤ, vec_items, None, Some, ⊎_elim, sym, subst, refl, arith}
use Rattle.std.proofs.lemmas.Bool.{cases_eq, cases_lt}
use Rattle.std.proofs.lemmas.List.{get_or_past}
use Rattle.std.proofs.lemmas.Bool.Decides.{nat_tests}
use Rattle.std.proofs.lemmas.Fmt.{IsAscii-from_digits}
use Rattle.std.proofs.lemmas.Str.{IsAscii-append, IsUtf8-from_ascii}
use Rattle.std.proofs.lemmas.Str.Ascii.{IsAscii-nil, IsAscii-cons}
use Rattle.std.specs.Char.{digit_value}
use Rattle.std.specs.Str.{IsAscii, IsUtf8}
use Rattle.refusal.specs.Told.{area_name}
use Rattle.refusal.specs.declared.Area.{Area}
use Rattle.refusal.specs.declared.Area.TheVariants.{Public, Key}
use Rattle.script.specs.Answers.{NoneIs}
use Rattle.script.specs.Lines.{Asks, Calls, Fills, Listed, Quiet, Says, Valued}
use Rattle.script.specs.Words.{Integer, Number, Spells, Writes}
use Rattle.script.specs.declared.command.Action.{Action}
use Rattle.script.specs.declared.command.Action.TheVariants.{WordsOfA, WordsOfT, Secret, Shares, Fill, Load, Work, Room, Poke, Show, NewTill, Once, Repeat}
use Rattle.script.specs.declared.command.Call.{Call}
use Rattle.script.specs.declared.command.Call.TheVariants.{Check, Sign, Remask, Report}
use Rattle.script.specs.declared.command.Command.{Command}
use Rattle.script.specs.declared.command.Command.TheVariants.{Nothing, Start, Act}
use Rattle.script.specs.declared.command.SetName.TheVariants.{S, I}
use Rattle.script.specs.declared.command.Shown.TheVariants.{Bytes, Last}
use Rattle.script.specs.declared.command.Supply.{Supply}
use Rattle.script.specs.declared.command.Supply.TheVariants.{Tape, Generator, Health}
use Rattle.script.specs.declared.stream.Stream.TheVariants.{Nonces, Masks}

-- by looking
abbrev all_ascii : List ℕ → Bool
all_ascii [] = true
all_ascii (b ∷ bs) = cond (nat_lt b 128) (all_ascii bs) false

looked : (bs : List ℕ) → all_ascii bs ≡ true → IsAscii bs
looked [] all = IsAscii-nil
looked (b ∷ bs) all = IsAscii-cons b bs (here b (all_ascii bs) all) (looked bs (more b (all_ascii bs) all))
  where
    here : (b : ℕ) (others : Bool) → cond (nat_lt b 128) others false ≡ true → b < 128
    here b others h = grind (arith, nat_tests)

    more : (b : ℕ) (others : Bool) → cond (nat_lt b 128) others false ≡ true → others ≡ true
    more b others h = grind (arith, nat_tests)

-- texts that are parted by a space
parted : (xs ys : List ℕ) → IsAscii xs → IsAscii ys → IsAscii (xs ++ (32 ∷ ys))
parted xs ys hx hy = IsAscii-append xs (32 ∷ ys) hx (IsAscii-cons 32 ys (omega arith) hy)

number : (max : ℕ) (word : List ℕ) (n : ℕ) → Number max word n → IsAscii word
number max word n h = IsAscii-from_digits word h.0.0.1

integer : (word : List ℕ) (z : ℤ) → Integer word z → IsAscii word
integer word z (inl h) = IsAscii-from_digits word h.0.0.1
integer word z (inr h) = subst IsAscii (sym h.1) (IsAscii-cons 45 h.0 (omega arith) (IsAscii-from_digits h.0 h.2.0.1))

written : {A : Type 0} (write : List ℕ → A → Type 0) → ((word : List ℕ) (x : A) → write word x → IsAscii word) → (text : List ℕ) (xs : List A) → Writes write text xs → IsAscii text
written write word text [] h = absurd h
written write word text (v ∷ []) h = word text v h
written write word text (v ∷ w ∷ more) h = subst IsAscii (sym h.2) (parted h.0 h.1 (word h.0 v h.3) (written write word h.1 (w ∷ more) h.4))

digit_below : (d : ℕ) → digit_value d < 16 → d < 128
digit_below d h = grind (arith, nat_tests)

spelled : (word bytes : List ℕ) → Spells word bytes → IsAscii word
spelled word bytes h k =
    let j = k / 2 in
    let long = h.sized in
    ⊎_elim (λ (l : k < length word).
    let p = h.pairs j (omega arith) in
    ⊎_elim (λ even. let e : k ≡ 2 * j = omega arith in subst (λ (i : ℕ). get_or word i 0 < 128) (sym e) (digit_below (get_or word (2 * j) 0) p.0))
    (λ odd. let e : k ≡ 2 * j + 1 = omega arith in subst (λ (i : ℕ). get_or word i 0 < 128) (sym e) (digit_below (get_or word (2 * j + 1) 0) p.1))
    (cases_eq (k % 2) 0))
    (λ past. let e = get_or_past word k 0 past in omega arith)
    (cases_lt k (length word))

area : (a : Area) → IsAscii (area_name a)
area Public = looked (codes "public") refl
area Key = looked (codes "key") refl

listed : {A : Type 0} (write : List ℕ → A → Type 0) → ((word : List ℕ) (x : A) → write word x → IsAscii word) → (name line : List ℕ) (xs : List A) → all_ascii name ≡ true → Listed write name line xs → IsAscii line
listed write word name line xs n (inl h) = subst IsAscii (sym h.0) (looked name n)
listed write word name line xs n (inr h) = subst IsAscii (sym h.1) (parted name h.0 (looked name n) (written write word h.0 xs h.2))

module _ (line : List ℕ) where
  numbered : (name : List ℕ) (max : ℕ) (n : ℕ) → all_ascii name ≡ true → (h : Valued (Number max) name line n) → IsAscii line
  numbered name max n all h = subst IsAscii (sym h.1) (parted name h.0 (looked name all) (number max h.0 n h.2))

  fills : (name : List ℕ) (s : Supply) → all_ascii name ≡ true → all_ascii (name ++ codes " tape") ≡ true → all_ascii (name ++ codes " health") ≡ true → Fills name line s → IsAscii line
  fills name (Tape v) n tape health h = listed (Number 4294967295) (number 4294967295) (name ++ codes " tape") line (vec_items v) tape h
  fills name (Generator seed count) n tape health h = subst IsAscii (sym h.2) (IsAscii-append name (codes " generator " ++ (h.0 ++ (32 ∷ h.1))) (looked name n) (IsAscii-append (codes " generator ") (h.0 ++ (32 ∷ h.1)) (looked (codes " generator ") refl) (parted h.0 h.1 (spelled h.0 seed h.3) (number 18446744073709551615 h.1 count h.5))))
  fills name (Health cutoff) n tape health h = numbered (name ++ codes " health") 4294967295 cutoff health h

  calls : (c : Call) → Calls line c → IsAscii line
  calls (Check Last) h = subst IsAscii (sym h) (looked (codes "check last") refl)
  calls (Check (Bytes v)) (inl h) = subst IsAscii (sym h.0) (looked (codes "check") refl)
  calls (Check (Bytes v)) (inr h) = subst IsAscii (sym h.1) (IsAscii-append (codes "check ") h.0 (looked (codes "check ") refl) (spelled h.0 (vec_items v) h.2))
  calls (Sign digest tries) h = subst IsAscii (sym h.2) (IsAscii-append (codes "sign ") (h.0 ++ (32 ∷ h.1)) (looked (codes "sign ") refl) (parted h.0 h.1 (spelled h.0 digest h.3) (number 4294967295 h.1 tries h.5)))
  calls Remask h = subst IsAscii (sym h) (looked (codes "remask") refl)
  calls Report h = subst IsAscii (sym h) (looked (codes "report") refl)

asks : (line : List ℕ) (a : Action) → Asks line a → IsAscii line
asks line (WordsOfA v) h = listed (Number 4294967295) (number 4294967295) (codes "a") line (vec_items v) refl h
asks line (WordsOfT v) h = listed (Number 4294967295) (number 4294967295) (codes "t") line (vec_items v) refl h
asks line (Secret v) h = listed Integer integer (codes "secret") line (vec_items v) refl h
asks line (Shares n) h = numbered line (codes "shares") 255 n refl h
asks line (Fill Nonces s) h = fills line (codes "nonces") s refl refl refl h
asks line (Fill Masks s) h = fills line (codes "masks") s refl refl refl h
asks line Load h = subst IsAscii (sym h) (looked (codes "load") refl)
asks line (Work n) h = numbered line (codes "work") 4294967295 n refl h
asks line (Room n) h = numbered line (codes "room") 4294967295 n refl h
asks line (Poke at index value) h =
    subst IsAscii (sym h.2)
    (IsAscii-append (codes "poke ") (area_name at ++ (32 ∷ (h.0 ++ (32 ∷ h.1)))) (looked (codes "poke ") refl)
    (parted (area_name at) (h.0 ++ (32 ∷ h.1)) (area at) (parted h.0 h.1 (number 18446744073709551615 h.0 index h.3) (number 4294967295 h.1 value h.4))))
asks line (Show at) h = subst IsAscii (sym h) (IsAscii-append (codes "show ") (area_name at) (looked (codes "show ") refl) (area at))
asks line (NewTill None) h = subst IsAscii (sym h) (looked (codes "till") refl)
asks line (NewTill (Some last)) h = numbered line (codes "till") 65535 last refl h
asks line (Once call) h = calls line call h
asks line (Repeat times call) h = subst IsAscii (sym h.2) (IsAscii-append (codes "repeat ") (h.0 ++ (32 ∷ h.1)) (looked (codes "repeat ") refl) (parted h.0 h.1 (number 4294967295 h.0 times h.3) (calls h.1 call h.5)))

pub says : (line : List ℕ) (c : Command) → (Quiet line → ⊥) → Says line c → IsAscii line
says line Nothing loud h = absurd (loud h)
says line (Start S) loud h = subst IsAscii (sym h) (looked (codes "set S") refl)
says line (Start I) loud h = subst IsAscii (sym h) (looked (codes "set I") refl)
says line (Act a) loud h = asks line a h

-- what is no text says nothing
pub no_text : (line : List ℕ) → (Quiet line → ⊥) → (IsUtf8 line → ⊥) → NoneIs (Says line)
no_text line loud other c h = other (IsUtf8-from_ascii line (says line c loud h))
