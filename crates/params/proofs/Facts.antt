-- What follows of every set's numbers.
use Rattle.std.proofs.Common.{◌≡◌, ℕ, zero, suc, ◌+◌, ◌*◌, ◌%◌, ◌^◌, ◌≤◌, ap, ◌∙◌, arith}
use Rattle.std.proofs.lemmas.Nat.{pow-add}
use Rattle.params.specs.Params.{Params, Sound}

quartered : (n log : ℕ) → n ≡ 2 ^ log → 4 ≤ n → n % 4 ≡ 0
quartered n zero e h = absurd (omega arith)
quartered n (suc zero) e h = absurd (omega arith)
quartered n (suc (suc k)) e h =
    let two : suc (suc k) ≡ 2 + k = omega arith in
    let q : 2 ^ suc (suc k) ≡ 4 * 2 ^ k = ap (λ (m : ℕ). 2 ^ m) two ∙ pow-add 2 2 k in
    omega arith

-- four codes fill a byte
pub n_quarters : (s : Params) → Sound s → s.n % 4 ≡ 0
n_quarters s sound = quartered s.n sound.log sound.n_power sound.n_least
