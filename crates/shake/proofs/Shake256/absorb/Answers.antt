use Rattle.std.proofs.Common.{◌≡◌, ℕ, suc, ◌-◌, ◌≤◌, List, [], ◌∷◌, ◌++◌, length, get_or, take, drop, sym, ap, ◌∙◌, subst, append_assoc, arith}
use Rattle.std.proofs.lemmas.List.{take_all, take-append-drop}
use Rattle.shake.specs.declared.Shake256.{Shake256}
use Rattle.shake.specs.Progress.{Absorbing}
use Rattle.shake.proofs.Shake256.absorb.Goals as goal

-- the hasher h is g after the bytes before rest
abbrev Before : List ℕ → List ℕ → Shake256 → Shake256 → Type 0
Before bytes rest g h = (front : List ℕ) × (bytes ≡ front ++ rest) × ((m : List ℕ) → Absorbing m g → Absorbing (m ++ front) h)

further : (bytes rest part behind : List ℕ) (g h k : Shake256) → Before bytes rest g h → rest ≡ part ++ behind
    → ((m : List ℕ) → Absorbing m h → Absorbing (m ++ part) k) → Before bytes behind g k
further bytes rest part behind g h k b e more = (
  b.0 ++ part,
  b.1 ∙ ap (λ (t : List ℕ). b.0 ++ t) e ∙ sym (append_assoc b.0 part behind),
  λ m a. subst (λ (t : List ℕ). Absorbing t k) (append_assoc m b.0 part) (more (m ++ b.0) (b.2 m a)),
)

first_apart : (xs : List ℕ) → 1 ≤ length xs → xs ≡ (get_or xs 0 0 ∷ []) ++ take (length xs - 1) (drop 1 xs)
first_apart [] h = absurd (omega arith)
first_apart (x ∷ xs) h = ap (λ (t : List ℕ). x ∷ t) (sym (take_all (suc (length xs) - 1) xs (omega arith)))

pub loop-rest-preserved-in-Some : goal.loop-rest-preserved-in-Some
loop-rest-preserved-in-Some c =
    let cut = c.in-Some.ensures.cases in
    let rest : List ℕ = c.loop-rest.rest.now in
    further c.args.bytes.now rest c.in-Some.lane.now c.in-Some.after_lane.now _ _ _ c.loop-rest.invariant (sym (take-append-drop 8 rest) ∙ cc) c.absorb_lane.ensures

pub loop-rest-preserved : goal.loop-rest-preserved
loop-rest-preserved c = further c.args.bytes.now c.loop-rest.rest.now _ _ _ _ _ c.loop-rest.invariant (first_apart c.loop-rest.rest.now c.in-len1-up.len_at_least) c.absorb_byte.ensures
