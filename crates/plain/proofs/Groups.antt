-- Words in groups of m, and the groups' words again.
use Rattle.std.proofs.Common.{◌≡◌, ℕ, zero, suc, ◌+◌, ◌*◌, ◌/◌, ◌<◌, ◌≤◌, List, [], ◌∷◌, ◌++◌, map, length, take, drop, sym, refl, ap, ◌∙◌, ap₂, append_assoc, add-zero, mod-lt, mul-one, mul-suc, mul-add, arith, length-append, length-drop, take-append-drop}
use native.Mathlib.Nat.{add-div_left, div-eq_of_lt, mod-add-div, mul-add-div}
use Rattle.std.specs.List.{flat_map, AllByRecursion}
use Rattle.std.proofs.lemmas.List.{take_at, drop_at, length-take-le, drop-drop, append-nil}
use Rattle.params.specs.Params.{Params}
use Rattle.plain.specs.Nonces.{groups, whole, cut_short, candidate, candidates}

-- the words of groups, one group after another
abbrev pub flat : List (List ℕ) → List ℕ
flat gs = flat_map (λ (h : List ℕ). h) gs

-- groups of m words
abbrev pub Sized : ℕ → List (List ℕ) → Type 0
Sized m gs = AllByRecursion (λ g. length g ≡ m) gs

pub flat_long : (m : ℕ) (gs : List (List ℕ)) → Sized m gs → length (flat gs) ≡ m * length gs
flat_long m [] z = let e : m * 0 ≡ 0 = omega arith in sym e
flat_long m (g ∷ gs) z =
    length-append g (flat gs)
    ∙ ap₂ ◌+◌ z.0 (flat_long m gs z.1)
    ∙ (let e : m + m * length gs ≡ m * suc (length gs) = omega (arith, mul-suc m (length gs)) in e)

pub flat_push : (hs : List (List ℕ)) (g : List ℕ) → flat (hs ++ g ∷ []) ≡ flat hs ++ g
flat_push [] g = append-nil g
flat_push (h ∷ hs) g = ap (λ (t : List ℕ). h ++ t) (flat_push hs g) ∙ sym (append_assoc h (flat hs) g)

regroup : (m : ℕ) (gs : List (List ℕ)) (r : List ℕ) → Sized m gs → groups m (length gs) (flat gs ++ r) ≡ gs
regroup m [] r z = refl
regroup m (g ∷ gs) r z =
    let e : (g ++ flat gs) ++ r ≡ g ++ (flat gs ++ r) = append_assoc g (flat gs) r in
    ap₂ (λ (h : List ℕ) (hs : List (List ℕ)). h ∷ hs)
    (ap (take m) e ∙ take_at g (flat gs ++ r) m z.0)
    (ap (groups m (length gs)) (ap (drop m) e ∙ drop_at g (flat gs ++ r) m z.0) ∙ regroup m gs r z.1)

groups_sized : (m k : ℕ) (ws : List ℕ) → m * k ≤ length ws → Sized m (groups m k ws)
groups_sized m zero ws h = tt
groups_sized m (suc k) ws h =
    let e = mul-suc m k in
    let l = length-drop m ws in
    (length-take-le m ws (omega arith), groups_sized m k (drop m ws) (omega arith))

groups_flat : (m k : ℕ) (ws : List ℕ) → flat (groups m k ws) ++ drop (m * k) ws ≡ ws
groups_flat m zero ws = ap (λ (t : ℕ). drop t ws) (let e : m * 0 ≡ 0 = omega arith in e)
groups_flat m (suc k) ws =
    let e : m * suc k ≡ m + m * k = omega (arith, mul-suc m k) in
    append_assoc (take m ws) (flat (groups m k (drop m ws))) (drop (m * suc k) ws)
    ∙ ap (λ (t : List ℕ). take m ws ++ (flat (groups m k (drop m ws)) ++ t)) (ap (λ (t : ℕ). drop t ws) e ∙ sym (drop-drop (m * k) m ws))
    ∙ ap (λ (t : List ℕ). take m ws ++ t) (groups_flat m k (drop m ws))
    ∙ take-append-drop m ws

module _ (m : ℕ) (ws : List ℕ) where
  within : m * (length ws / m) ≤ length ws
  within = let e = mod-add-div (length ws) m in omega arith

  pub whole-sized : Sized m (whole m ws)
  unfolding whole
  whole-sized = groups_sized m (length ws / m) ws within

  pub cut-few : 0 < m → length (cut_short m ws) < m
  unfolding cut_short
  cut-few pos =
      let e = mod-add-div (length ws) m in
      let l = mod-lt (length ws) pos in
      let d = length-drop (m * (length ws / m)) ws in
      omega arith

  -- nothing is lost
  pub whole-and-cut : flat (whole m ws) ++ cut_short m ws ≡ ws
  unfolding whole cut_short
  whole-and-cut = groups_flat m (length ws / m) ws

-- fewer words than a group
module _ (m : ℕ) (ws : List ℕ) (few : length ws < m) where
  pub whole-few : whole m ws ≡ []
  unfolding whole
  whole-few = ap (λ (k : ℕ). groups m k ws) (div-eq_of_lt few)

  pub cut_all : cut_short m ws ≡ ws
  unfolding cut_short
  cut_all =
      let z : m * 0 ≡ 0 = omega arith in
      ap (λ (k : ℕ). drop (m * k) ws) (div-eq_of_lt few) ∙ ap (λ (k : ℕ). drop k ws) z

-- a group off the front
module _ (m : ℕ) (pos : 0 < m) (g ws : List ℕ) (long : length g ≡ m) where
  more-by-one : length (g ++ ws) / m ≡ length ws / m + 1
  more-by-one = ap (λ (t : ℕ). t / m) (length-append g ws ∙ ap (λ (t : ℕ). t + length ws) long) ∙ add-div_left (length ws) pos

  pub whole-step : whole m (g ++ ws) ≡ g ∷ whole m ws
  unfolding whole
  whole-step =
      let k : length ws / m + 1 ≡ suc (length ws / m) = omega arith in
      ap (λ (t : ℕ). groups m t (g ++ ws)) (more-by-one ∙ k)
      ∙ ap₂ (λ (h : List ℕ) (t : List ℕ). h ∷ groups m (length ws / m) t) (take_at g ws m long) (drop_at g ws m long)

  pub cut_step : cut_short m (g ++ ws) ≡ cut_short m ws
  unfolding cut_short
  cut_step =
      let q = length ws / m in
      let a : m * (q + 1) ≡ m + m * q = omega (arith, mul-add m q 1, mul-one m) in
      ap (λ (t : ℕ). drop (m * t) (g ++ ws)) more-by-one
      ∙ ap (λ (t : ℕ). drop t (g ++ ws)) a
      ∙ sym (drop-drop (m * q) m (g ++ ws))
      ∙ ap (drop (m * q)) (drop_at g ws m long)

-- the same of a list that holds a group
module _ (m : ℕ) (pos : 0 < m) (ws : List ℕ) (enough : m ≤ length ws) where
  pub whole-more : whole m ws ≡ take m ws ∷ whole m (drop m ws)
  whole-more = ap (whole m) (sym (take-append-drop m ws)) ∙ whole-step m pos (take m ws) (drop m ws) (length-take-le m ws enough)

  pub cut-more : cut_short m ws ≡ cut_short m (drop m ws)
  cut-more = ap (cut_short m) (sym (take-append-drop m ws)) ∙ cut_step m pos (take m ws) (drop m ws) (length-take-le m ws enough)

-- groups and a few words more are cut into those groups again
pub whole_flat : (m : ℕ) (gs : List (List ℕ)) (r : List ℕ) → 0 < m → Sized m gs → length r < m → whole m (flat gs ++ r) ≡ gs
unfolding whole
whole_flat m gs r pos z few =
    let count : length (flat gs ++ r) / m ≡ length gs =
    ap (λ (t : ℕ). t / m) (length-append (flat gs) r ∙ ap (λ (t : ℕ). t + length r) (flat_long m gs z))
    ∙ mul-add-div pos (length gs) (length r)
    ∙ ap (λ (t : ℕ). length gs + t) (div-eq_of_lt few)
    ∙ add-zero (length gs) in
    ap (λ (k : ℕ). groups m k (flat gs ++ r)) count ∙ regroup m gs r z

pub candidates_flat : (s : Params) (m : ℕ) (gs : List (List ℕ)) (r : List ℕ) → 0 < m → Sized m gs → length r < m → candidates s m (flat gs ++ r) ≡ map (candidate s) gs
candidates_flat s m gs r pos z few = ap (map (candidate s)) (whole_flat m gs r pos z few)

pub candidates_none : (s : Params) (m : ℕ) → 0 < m → candidates s m [] ≡ []
candidates_none s m pos = candidates_flat s m [] [] pos tt pos
