-- The laws of `bit_and` and `bit_xor` that the library lacks, by induction on the binary digits.
use Rattle.std.proofs.Common.{◌≡◌, ℕ, zero, suc, ◌/◌, ◌%◌, ◌<◌, sym, refl, ap, ◌∙◌, ap₂, mod-lt, zero-lt-suc, arith}
use lib.Arith.{bin_ind}
use lib.Bits.{bit_and, bit_xor, and_shr, and_mod, xor_shr, xor_mod, and_comm, xor_comm, xor_assoc, xor_self}

pub by_digits : (a b : ℕ) → a / 2 ≡ b / 2 → a % 2 ≡ b % 2 → a ≡ b
by_digits a b hi lo = omega arith

pub digit_ind : (P : ℕ → Type 0) → P 0 → P 1 → (x : ℕ) → x < 2 → P x
digit_ind P p q zero h = p
digit_ind P p q (suc zero) h = q
digit_ind P p q (suc (suc x)) h = absurd (omega arith)

pub digits3 : (P : ℕ → ℕ → ℕ → Type 0) → P 0 0 0 → P 0 0 1 → P 0 1 0 → P 0 1 1 → P 1 0 0 → P 1 0 1 → P 1 1 0 → P 1 1 1
    → (x y z : ℕ) → x < 2 → y < 2 → z < 2 → P x y z
digits3 P a b c d e f g h x y z hx hy hz =
    digit_ind (λ x. P x y z)
    (digit_ind (λ y. P 0 y z) (digit_ind (λ z. P 0 0 z) a b z hz) (digit_ind (λ z. P 0 1 z) c d z hz) y hy)
    (digit_ind (λ y. P 1 y z) (digit_ind (λ z. P 1 0 z) e f z hz) (digit_ind (λ z. P 1 1 z) g h z hz) y hy)
    x hx

low : (a : ℕ) → a % 2 < 2
low a = mod-lt a (zero-lt-suc 1)

pub and_assoc : (a b c : ℕ) → bit_and (bit_and a b) c ≡ bit_and a (bit_and b c)
and_assoc =
    bin_ind (λ (n : ℕ). (b c : ℕ) → bit_and (bit_and n b) c ≡ bit_and n (bit_and b c)) (λ b c. refl)
    (λ n ih b c. by_digits _ _
    (and_shr (bit_and n b) c 1 ∙ ap (λ (x : ℕ). bit_and x (c / 2)) (and_shr n b 1) ∙ ih (b / 2) (c / 2)
    ∙ sym (and_shr n (bit_and b c) 1 ∙ ap (bit_and (n / 2)) (and_shr b c 1)))
    (and_mod (bit_and n b) c 1 ∙ ap (λ (x : ℕ). bit_and x (c % 2)) (and_mod n b 1)
    ∙ digits3 (λ x y z. bit_and (bit_and x y) z ≡ bit_and x (bit_and y z)) refl refl refl refl refl refl refl refl
    (n % 2) (b % 2) (c % 2) (low n) (low b) (low c)
    ∙ sym (and_mod n (bit_and b c) 1 ∙ ap (bit_and (n % 2)) (and_mod b c 1))))

pub and_xor : (a b c : ℕ) → bit_and a (bit_xor b c) ≡ bit_xor (bit_and a b) (bit_and a c)
and_xor =
    bin_ind (λ (n : ℕ). (b c : ℕ) → bit_and n (bit_xor b c) ≡ bit_xor (bit_and n b) (bit_and n c)) (λ b c. refl)
    (λ n ih b c. by_digits _ _
    (and_shr n (bit_xor b c) 1 ∙ ap (bit_and (n / 2)) (xor_shr b c 1) ∙ ih (b / 2) (c / 2)
    ∙ sym (xor_shr (bit_and n b) (bit_and n c) 1 ∙ ap₂ bit_xor (and_shr n b 1) (and_shr n c 1)))
    (and_mod n (bit_xor b c) 1 ∙ ap (bit_and (n % 2)) (xor_mod b c 1)
    ∙ digits3 (λ x y z. bit_and x (bit_xor y z) ≡ bit_xor (bit_and x y) (bit_and x z)) refl refl refl refl refl refl refl refl
    (n % 2) (b % 2) (c % 2) (low n) (low b) (low c)
    ∙ sym (xor_mod (bit_and n b) (bit_and n c) 1 ∙ ap₂ bit_xor (and_mod n b 1) (and_mod n c 1))))

pub xor_and : (a b c : ℕ) → bit_and (bit_xor a b) c ≡ bit_xor (bit_and a c) (bit_and b c)
xor_and a b c = and_comm (bit_xor a b) c ∙ and_xor c a b ∙ ap₂ bit_xor (and_comm c a) (and_comm c b)

pub xor_left_comm : (a b c : ℕ) → bit_xor a (bit_xor b c) ≡ bit_xor b (bit_xor a c)
xor_left_comm a b c = sym (xor_assoc a b c) ∙ ap (λ (x : ℕ). bit_xor x c) (xor_comm a b) ∙ xor_assoc b a c

pub xor_twice : (a b : ℕ) → bit_xor a (bit_xor a b) ≡ b
xor_twice a b = sym (xor_assoc a a b) ∙ ap (λ (x : ℕ). bit_xor x b) (xor_self a)
