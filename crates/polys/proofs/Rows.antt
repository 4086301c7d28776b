-- The rows of an area, and what a write to one of them leaves.
use Rattle.std.proofs.Common.{◌≡◌, ℕ, ◌+◌, ◌-◌, ◌*◌, ◌/◌, ◌%◌, ◌<◌, ◌≤◌, List, length, get_or, take, drop, sym, ap, ◌∙◌, subst, div-add-mod', arith, below_more}
use borrow.Rule.Slice.PartMut.{put_mid}
use Rattle.std.proofs.lemmas.Nat.{mul-le, div_below, mod_below}
use Rattle.std.proofs.lemmas.List.{length-take-le, length-drop, get_or-take, get_or-drop, drop-take}
use Rattle.std.proofs.lemmas.Slice.{take-put_mid_below, between-put_mid}
use Rattle.ring.specs.Laws.{Proper}
use Rattle.ring.specs.Ring.{Residues, plus}
use Rattle.ring.proofs.Polynomials.{plus-residues}
use Rattle.polys.specs.Area.{row}

module _ (n : ℕ) where
  -- a row before the h-th ends before the h-th begins
  pub row_before : (j h : ℕ) → j < h → (j + 1) * n ≤ h * n
  row_before j h l = grind (arith, mul-le)

  pub row_at : (j : ℕ) (area : List ℕ) (c : ℕ) → c < n → get_or (row n j area) c 0 ≡ get_or area (j * n + c) 0
  unfolding row
  row_at j area c h = get_or-take n (drop (j * n) area) c 0 h ∙ get_or-drop (j * n) area c 0

  module _ (j : ℕ) (area : List ℕ) (h : (j + 1) * n ≤ length area) where
    pub row-long : length (row n j area) ≡ n
    unfolding row
    row-long = let l = length-drop (j * n) area in length-take-le n (drop (j * n) area) (omega arith)

    pub row-proper : (p : ℕ) (xs : List ℕ) → Residues p area → xs ≡ row n j area → Proper n p xs
    row-proper p xs r is =
        let long = row-long in
        subst (Proper n p) (sym is) (long, λ c l. subst (λ (v : ℕ). v < p) (sym (row_at j area c (omega arith))) (r (j * n + c) (omega arith)))

    -- a row that was written
    pub row_written : (ys : List ℕ) → length ys ≡ n → row n j (put_mid (j * n) (j * n + n - j * n) area ys) ≡ ys
    unfolding row
    row_written ys l =
        let w : n ≡ j * n + n - j * n = omega arith in
        ap (λ (k : ℕ). take k (drop (j * n) (put_mid (j * n) (j * n + n - j * n) area ys))) w
        ∙ between-put_mid (j * n) (j * n + n - j * n) area ys (j * n + n) (omega arith) (omega arith)

    -- the rows before it
    pub row_kept : (k w : ℕ) (ys : List ℕ) → k < j → row n k (put_mid (j * n) w area ys) ≡ row n k area
    unfolding row
    row_kept k w ys l =
        let b = row_before k j l in
        sym (drop-take (k * n) n (put_mid (j * n) w area ys))
        ∙ ap (drop (k * n)) (take-put_mid_below (j * n) w area ys (k * n + n) (omega arith) (omega arith))
        ∙ drop-take (k * n) n area

  -- the rows before row i hold what they should
  abbrev pub Written : (ℕ → List ℕ) → ℕ → List ℕ → Type 0
  Written f i area = (k : ℕ) → k < i → row n k area ≡ f k

  pub written-more : (f : ℕ → List ℕ) (i : ℕ) (area ys : List ℕ) (d : ℕ) → d ≡ n → (i + 1) * n ≤ length area → length ys ≡ n → ys ≡ f i → Written f i area → Written f (i + 1) (put_mid (i * d) (i * d + d - i * d) area ys)
  written-more f i area ys d same h l e w =
      let next : Written f (i + 1) (put_mid (i * n) (i * n + n - i * n) area ys) =
      below_more _ _
      (λ k b. row_kept i area h k (i * n + n - i * n) ys b ∙ w k b)
      (row_written i area h ys l ∙ e) in
      subst (λ (d : ℕ). Written f (i + 1) (put_mid (i * d) (i * d + d - i * d) area ys)) (sym same) next

  -- an area of h rows is residues where all of them are
  rows-residues : (p h : ℕ) (area : List ℕ) → 0 < n → length area ≡ h * n → ((k : ℕ) → k < h → Residues p (row n k area)) → Residues p area
  rows-residues p h area some long r q l =
      let d : q / n < h = div_below q n h some (omega arith) in
      let m = mod_below q n some in
      let b = row_before (q / n) h d in
      let e = row-long (q / n) area (omega arith) in
      subst (λ (v : ℕ). v < p) (row_at (q / n) area (q % n) m ∙ ap (λ (k : ℕ). get_or area k 0) (div-add-mod' q n)) (r (q / n) d (q % n) (omega arith))

  -- so it is where each row is a sum
  pub sums_residues : (p h : ℕ) (f g : ℕ → List ℕ) (area : List ℕ) → 0 < n → 0 < p → length area ≡ h * n → Written (λ (k : ℕ). plus p (f k) (g k)) h area → Residues p area
  sums_residues p h f g area some big long w = rows-residues p h area some long (λ k l. subst (Residues p) (sym (w k l)) (plus-residues p (f k) (g k) big))
