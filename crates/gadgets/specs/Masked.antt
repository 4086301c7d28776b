-- Which shares the gadgets make, where that is settled.
use Rattle.std.specs.Prelude.{◌≡◌, ℕ, ◌-◌, List, map, drop}
use Rattle.linear.specs.Words.{shifted}
use Rattle.shares.specs.Rule.{masks}
use Rattle.shares.specs.Groups.{word_rule, residue_rule}
use Rattle.shares.specs.Refresh.{pairs, rows, refreshed}
use Rattle.shares.specs.Conjoined.{conjoined}

-- behind the first of the m shares z stand the masks that the words ws make
abbrev pub Masked : ℕ → ℕ → (ws z : List ℕ) → Type 0
Masked p m ws z = drop 1 z ≡ masks (residue_rule p) (m - 1) ws

-- the runs that a level of the adder makes of p: SecAnd of p with p moved and refreshed. The first words serve the carries
abbrev pub runs : (m places : ℕ) → (p ws : List ℕ) → List ℕ
runs m places p ws =
    let moved = refreshed word_rule (rows 0 m) (drop (pairs m) ws) (map (shifted places) p) in
    conjoined m p moved (drop (pairs m) (drop (pairs m) ws))
