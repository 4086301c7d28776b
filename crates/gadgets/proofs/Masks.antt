-- Masks beside their inverses.
use Rattle.std.proofs.Common.{◌≡◌, ℕ, suc, ◌+◌, ◌<◌, List, [], ◌∷◌, length, get_or, set, sym, ap, ◌∙◌, subst, ap₂, mod-lt, suc-le-suc, arith}
use Rattle.shares.specs.Rule.{Rule, Laws, Within, recombine}
use Rattle.shares.specs.Groups.{residue_of}
use Rattle.shares.proofs.Pairs.{recombine-joined, recombine-in, set-within}

module _ (u : Rule) (laws : Laws u) where
  swap : (a b c d : ℕ) → u.op (u.op a b) (u.op c d) ≡ u.op (u.op a c) (u.op b d)
  swap a b c d =
      laws.assoc a b (u.op c d)
      ∙ ap (u.op a) (sym (laws.assoc b c d) ∙ ap (λ (x : ℕ). u.op x d) (laws.comm b c) ∙ laws.assoc c b d)
      ∙ sym (laws.assoc a c (u.op b d))

  -- ys are the inverses of xs
  abbrev pub Inverses : List ℕ → List ℕ → Type 0
  Inverses xs ys = (length ys ≡ length xs) × ((k : ℕ) → k < length xs → get_or ys k 0 ≡ u.inverse (get_or xs k 0))

  pub inverses-within : (xs ys : List ℕ) → Within u xs → Inverses xs ys → Within u ys
  inverses-within xs ys w v k h =
      let l : k < length xs = let e = v.0 in omega arith in
      subst (λ (y : ℕ). y < u.order) (sym (v.1 k l)) (laws.inverse_in (get_or xs k 0) (w k l))

  -- together they stand for the unit
  inverses-undo : (xs ys : List ℕ) → Within u xs → Inverses xs ys → u.op (recombine u xs) (recombine u ys) ≡ u.unit
  inverses-undo [] [] w v = laws.neutral u.unit laws.unit_in
  inverses-undo [] (y ∷ ys) w v = let e = v.0 in absurd (omega arith)
  inverses-undo (x ∷ xs) [] w v = let e = v.0 in absurd (omega arith)
  inverses-undo (x ∷ xs) (y ∷ ys) w v =
      let e = v.0 in
      let l : 0 < suc (length xs) = omega arith in
      let rest = inverses-undo xs ys (λ k h. w (suc k) (suc-le-suc h)) (omega arith, λ k h. v.1 (suc k) (suc-le-suc h)) in
      swap x (recombine u xs) y (recombine u ys)
      ∙ ap₂ u.op (ap (u.op x) (v.1 0 l) ∙ laws.undoes x (w 0 l)) rest
      ∙ laws.neutral u.unit laws.unit_in

  set-fresh : (xs : List ℕ) (i r : ℕ) → i < length xs → r < u.order → get_or xs i 0 ≡ u.unit → recombine u (set xs i r) ≡ u.op (recombine u xs) r
  set-fresh xs i r h k e =
      ap (λ (v : ℕ). recombine u (set xs i v)) (sym (ap (λ (x : ℕ). u.op x r) e ∙ laws.comm u.unit r ∙ laws.neutral r k)) ∙ recombine-joined u laws xs i r h

  -- with x less the others for the first, masks are shares of x
  pub shares-of : (v x : ℕ) (xs ys : List ℕ) → 0 < length xs → x < u.order → v ≡ u.op (recombine u ys) x → Within u xs → get_or xs 0 0 ≡ u.unit → Inverses xs ys
      → Within u (set xs 0 v) × (recombine u (set xs 0 v) ≡ x)
  shares-of v x xs ys z h e w first i =
      let kv : v < u.order = subst (λ (w : ℕ). w < u.order) (sym e) (laws.closed (recombine u ys) x (recombine-in u laws ys (inverses-within xs ys w i)) h) in (
        set-within u laws xs 0 v w kv,
        set-fresh xs 0 v z kv first ∙ ap (u.op (recombine u xs)) e ∙ sym (laws.assoc (recombine u xs) (recombine u ys) x)
            ∙ ap (λ (w : ℕ). u.op w x) (inverses-undo xs ys w i) ∙ laws.comm u.unit x ∙ laws.neutral x h,
      )

pub residue_below : (p : ℕ) (xs : List ℕ) → 1 < p → residue_of p xs < p
residue_below p [] h = omega arith
residue_below p (x ∷ xs) h = mod-lt (x + residue_of p xs) (omega arith)
