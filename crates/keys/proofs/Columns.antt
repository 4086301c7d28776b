-- A coefficient of the key area, as `scatter` asks for it.
use Rattle.std.proofs.Common.{◌≡◌, ℕ, ◌+◌, ◌*◌, ◌/◌, ◌^◌, ◌<◌, ◌≤◌, List, length, sym, ap, ◌∙◌, arith}
use Rattle.params.specs.Params.{Params, Sound}
use Rattle.polys.proofs.Places.{polynomial-inside}

pub column : (s : Params) (m n c : ℕ) (key : List ℕ) → Sound s → n ≡ s.n → m ≤ 8 → length key ≡ 2 * m * s.n → c < 2 * s.n → (m * 4 < 2 ^ 63) × ((0 < n × (n ≤ 1024 × m ≤ 8)) × (c / n + 1) * m * n ≤ length key)
column s m n c key sound e most long inside =
    let least = sound.n_least in
    let top = sound.n_most in
    (omega arith, ((omega arith, (omega arith, most)), polynomial-inside n m (omega arith) 2 c key (omega arith) (long ∙ ap (λ (k : ℕ). 2 * m * k) (sym e))))
