-- What each step of a signing takes from the mask source, at m shares.
use Rattle.std.specs.Prelude.{ℕ, ◌+◌, ◌-◌, ◌*◌}
use Rattle.params.specs.Params.{Params}
use Rattle.refusal.specs.declared.fault.Step.{Step}
use Rattle.refusal.specs.declared.fault.Step.TheVariants.{Candidate, Conversion, Commit, Check, Open}
use Rattle.shares.specs.Groups.{residue_rule}
use Rattle.shares.specs.Refresh.{pairs}

-- the words of a residue mask
abbrev pub mask_words : Params → ℕ
mask_words s = (residue_rule s.p).cost

-- the words of a step
unfoldable pub cost : Params → ℕ → Step → ℕ
cost s m (Candidate at) = 17 * pairs m
cost s m (Conversion at) = mask_words s * (m - 1) + (m + 1) * (33 * pairs m)
cost s m Commit = s.n * (mask_words s * pairs m)
cost s m Check = 2 * s.n * ((33 * m + 16) * pairs m) + pairs m
cost s m Open = 2 * s.n * (mask_words s * pairs m)
