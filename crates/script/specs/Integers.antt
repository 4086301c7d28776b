-- Words of digits, with or without a minus sign.
use Rattle.std.specs.Prelude.{◌≡◌, ℕ, zero, suc, List, [], ◌∷◌, drop, ℤ, Ok, Err, Result, ◌≢◌, slice_index, refl}
use Rattle.std.proofs.Common.{inl, inr, ⊎_elim, sym, subst, arith}
use Rattle.std.specs.Str.Iter.{LacksByte}
use Rattle.std.specs.Int.{IsInRange, w8}
use Rattle.std.specs.Str.Parse.{AllDigits, ParsesSigned, digits_value}
use Rattle.std.proofs.lemmas.Str.Parse.{IsNumeralModel, numerals_by_value, tells_digits, not_in_digits, parse_signed_minus, parse_signed_plain}
use Rattle.std.proofs.lemmas.Result.{OkIff-at_ok, OkIff-at_err}
use Rattle.std.proofs.lemmas.Bool.{cases_eq}
use Rattle.script.specs.Words.{Decimal, Integer, Number}

own : IsNumeralModel (AllDigits 10) (digits_value 10)
own = numerals_by_value (AllDigits 10) tells_digits

-- digits have no space between them
digits_solid : (word : List ℕ) → AllDigits 10 word → LacksByte 32 word
digits_solid word d k h e = not_in_digits own word 32 d (λ i. omega arith) k h e

pub number_solid : (max : ℕ) (word : List ℕ) (n : ℕ) → Number max word n → LacksByte 32 word
number_solid max word n h = digits_solid word h.0.0.1

lacks_cons : (b : ℕ) (bs : List ℕ) → (b ≢ 32) → LacksByte 32 bs → LacksByte 32 (b ∷ bs)
lacks_cons b bs other lacks zero h e = other e
lacks_cons b bs other lacks (suc k) h e = lacks k (omega arith) e

pub integer_solid : (word : List ℕ) (z : ℤ) → Integer word z → LacksByte 32 word
integer_solid word z h =
    ⊎_elim (λ p. digits_solid word p.0.0.1)
    (λ m. subst (LacksByte 32) (sym m.1) (lacks_cons 45 m.0 (λ e. omega arith) (digits_solid m.0 m.2.0.1)))
    h

minus_first : (bs : List ℕ) → slice_index bs 0 ≡ 45 → bs ≡ 45 ∷ drop 1 bs
minus_first [] e = absurd (omega arith)
minus_first (b ∷ bs) e = cc

-- what `parse` reads where no plus sign stands in front
pub integer_ok : {E : Type 0} (bs : List ℕ) (z : ℤ) (r : Result ℤ E) → r ≡ Ok z → ParsesSigned w8 10 bs r → (slice_index bs 0 ≢ 43) → Integer bs z
integer_ok bs z r is h no_plus =
    ⊎_elim
    (λ e. let p = OkIff-at_ok r _ _ z (parse_signed_minus own w8 bs r h e) is in inr (drop 1 bs, minus_first bs e, ((p.0.1, p.0.0), p.0.2), p.1))
    (λ no_minus. let p = OkIff-at_ok r _ _ z (parse_signed_plain own w8 bs r h no_plus no_minus) is in let below = p.0.2 in inl (((p.0.1, p.0.0), omega arith), p.1))
    (cases_eq (slice_index bs 0) 45)

minus_err : {E : Type 0} (ds : List ℕ) (e : E) (r : Result ℤ E) → ParsesSigned w8 10 (45 ∷ ds) r → r ≡ Err e → Decimal 128 ds → ⊥
minus_err ds e r h is d = OkIff-at_err r _ _ e (parse_signed_minus own w8 (45 ∷ ds) r h refl) is (d.0.1, d.0.0, d.1)

plain_err : {E : Type 0} (bs : List ℕ) (e : E) (r : Result ℤ E) → ParsesSigned w8 10 bs r → r ≡ Err e → Decimal 127 bs → ⊥
plain_err bs e r h is d =
    let most = d.1 in
    let no : (c : ℕ) → (IsInRange 48 57 c → ⊥) → slice_index bs 0 ≡ c → ⊥ = λ c out. not_in_digits own bs c d.0.1 out 0 d.0.0 in
    OkIff-at_err r _ _ e (parse_signed_plain own w8 bs r h (no 43 (λ i. omega arith)) (no 45 (λ i. omega arith))) is (d.0.1, d.0.0, omega arith)

pub integer_err : {E : Type 0} (bs : List ℕ) (e : E) (r : Result ℤ E) → ParsesSigned w8 10 bs r → r ≡ Err e → (z : ℤ) → Integer bs z → ⊥
integer_err bs e r h is z i =
    ⊎_elim (λ p. plain_err bs e r h is p.0)
    (λ m. minus_err m.0 e r (subst (λ (t : List ℕ). ParsesSigned w8 10 t r) m.1 h) is m.2)
    i
