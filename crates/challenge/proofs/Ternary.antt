-- A challenge is a polynomial whose coefficients are 0, 1 and −1.
use Rattle.std.proofs.Common.{◌≡◌, ℕ, zero, suc, ◌<◌, true, false, cond, eqb, List, [], ◌∷◌, length, get_or, set, replicate, refl, ◌∙◌, inl, inr, arith, length-set}
use lib.ListN.{length-replicate}
use Rattle.std.specs.List.{AllByRecursion}
use Rattle.std.proofs.ByRecursion.{All-set, All-get_or}
use Rattle.params.specs.Params.{Params, Sound}
use Rattle.record.specs.Writing.{Ternary}
use Rattle.ring.specs.Laws.{Proper}
use Rattle.challenge.specs.declared.Sign.{Sign}
use Rattle.challenge.specs.declared.Sign.TheVariants.{Plus, Minus}
use Rattle.challenge.specs.Challenge.{challenge, filled, message, place, stream, unit}

-- n coefficients of 0, 1 and −1
record Small (s : Params) (c : List ℕ) : Type 0 where
  pub long : length c ≡ s.n
  pub ternary : AllByRecursion (Ternary s) c

unit_ternary : (s : Params) (sign : Sign) → Ternary s (unit s.p sign)
unit_ternary s Plus = inr (inl refl)
unit_ternary s Minus = inr (inr refl)

filled_small : (s : Params) (wanted : ℕ) (words c : List ℕ) → Small s c → Small s (filled s wanted words c)
unfolding filled
filled_small s zero words c h = h
filled_small s (suc wanted) [] c h = h
filled_small s (suc wanted) (w ∷ words) c h =
    let at = place s.n w in
    let c' = set c at.0 (unit s.p at.1) in
    elim (eqb (get_or c at.0 0) 0)
    as (λ b. Small s (cond b (filled s wanted words c') (filled s (suc wanted) words c))) [
      | true ↦ filled_small s wanted words c' record {
        long = length-set c at.0 (unit s.p at.1) ∙ h.long;
        ternary = All-set (Ternary s) c at.0 (unit s.p at.1) (unit_ternary s at.1) h.ternary;
      }
      | false ↦ filled_small s (suc wanted) words c h
    ]

zeros_ternary : (s : Params) (k : ℕ) → AllByRecursion (Ternary s) (replicate k 0)
zeros_ternary s zero = tt
zeros_ternary s (suc k) = (inl refl, zeros_ternary s k)

small : (s : Params) (r digest : List ℕ) (counter : ℕ) → Small s (challenge s r digest counter)
unfolding challenge
small s r digest counter = filled_small s s.alpha (stream (message r digest counter)) (replicate s.n 0) record { long = length-replicate s.n 0; ternary = zeros_ternary s s.n }

pub challenge_long : (s : Params) (r digest : List ℕ) (counter : ℕ) → length (challenge s r digest counter) ≡ s.n
challenge_long s r digest counter = (small s r digest counter).long

pub challenge_ternary : (s : Params) (r digest : List ℕ) (counter : ℕ) → AllByRecursion (Ternary s) (challenge s r digest counter)
challenge_ternary s r digest counter = (small s r digest counter).ternary

below_p : (s : Params) → Sound s → (v : ℕ) → Ternary s v → v < s.p
below_p s ok v (inl e) = let k = ok.k_below_p in omega arith
below_p s ok v (inr (inl e)) = let k = ok.k_below_p in omega arith
below_p s ok v (inr (inr e)) = let k = ok.k_below_p in omega arith

-- so it is a polynomial of residues
pub challenge_proper : (s : Params) → Sound s → (r digest : List ℕ) (counter : ℕ) → Proper s.n s.p (challenge s r digest counter)
challenge_proper s ok r digest counter =
    let c = small s r digest counter in
    (c.long, λ k h. below_p s ok _ (All-get_or (Ternary s) (challenge s r digest counter) k 0 h c.ternary))
