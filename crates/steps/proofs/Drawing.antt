-- Words drawn one by one are the first of the source.
use Rattle.std.proofs.Common.{◌≡◌, ℕ, zero, suc, ◌<◌, ◌≤◌, List, [], ◌∷◌, length, get_or, take, drop, sym, ap, ◌∙◌, arith, length-take, get_or-take, ext_get_or}

pub first_left : (ws vs : List ℕ) (i w : ℕ) → drop i ws ≡ w ∷ vs → get_or ws i 0 ≡ w
first_left ws vs zero w e = ap (λ (l : List ℕ). get_or l 0 0) e
first_left [] vs (suc i) w e = let l : 0 ≡ suc (length vs) = ap length e in absurd (omega arith)
first_left (x ∷ ws) vs (suc i) w e = first_left ws vs i w e

pub first_words : (os ws : List ℕ) (n : ℕ) → length os ≡ n → n ≤ length ws → ((k : ℕ) → k < n → get_or os k 0 ≡ get_or ws k 0) → os ≡ take n ws
first_words os ws n e h f =
    let l : length (take n ws) ≡ n = length-take n ws ∙ omega arith in
    ext_get_or 0 os (take n ws) (omega arith) (λ k b. let c : k < n = omega arith in f k c ∙ sym (get_or-take n ws k 0 c))
