-- Coefficients by their places in the bytes.
use Rattle.std.proofs.Common.{◌≡◌, ℕ, zero, suc, ◌*◌, ◌/◌, ◌%◌, ◌^◌, ◌<◌, List, [], ◌∷◌, length, get_or, sym, refl, ap, ◌∙◌, ap₂, arith}
use Rattle.record.specs.Layout.{z_of, unpacked}

pub length_z : (bs : List ℕ) → length (z_of bs) ≡ length bs / 2
length_z [] = refl
length_z (a ∷ []) = refl
length_z (a ∷ b ∷ bs) = ap suc (length_z bs) ∙ omega arith

pub length_unpacked : (bs : List ℕ) → length (unpacked bs) ≡ 4 * length bs
length_unpacked [] = refl
length_unpacked (b ∷ bs) = ap (λ (k : ℕ). suc (suc (suc (suc k)))) (length_unpacked bs) ∙ omega arith

pub get_d_unpacked : (bs : List ℕ) (i d : ℕ) → i < 4 * length bs → get_or (unpacked bs) i d ≡ get_or bs (i / 4) 0 / 2 ^ (2 * (i % 4)) % 4
get_d_unpacked [] i d h = absurd (omega arith)
get_d_unpacked (b ∷ bs) zero d h = omega arith
get_d_unpacked (b ∷ bs) (suc zero) d h = refl
get_d_unpacked (b ∷ bs) (suc (suc zero)) d h = refl
get_d_unpacked (b ∷ bs) (suc (suc (suc zero))) d h = refl
get_d_unpacked (b ∷ bs) (suc (suc (suc (suc i)))) d h =
    let j : ℕ = suc (suc (suc (suc i))) in
    let q : j / 4 ≡ suc (i / 4) = omega arith in
    let r : j % 4 ≡ i % 4 = omega arith in
    get_d_unpacked bs i d (omega arith) ∙ ap₂ (λ (k m : ℕ). get_or (b ∷ bs) k 0 / 2 ^ (2 * m) % 4) (sym q) (sym r)
