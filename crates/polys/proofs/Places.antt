-- Where shares stand: no two at one place, and one at each place.
use Rattle.std.proofs.Common.{◌≡◌, ℕ, zero, suc, ◌+◌, ◌*◌, ◌/◌, ◌%◌, ◌<◌, ◌≤◌, List, length, get_or, sym, ap, ◌∙◌, subst, div-add-mod', arith}
use Rattle.std.proofs.lemmas.Nat.{mul-le, mul-add-lt, div-mul-add, mod-mul-add, div_below, mod_below}
use Rattle.std.proofs.lemmas.List.FromFn.{length-map-range_with_len, get_or-map-range_with_len, fill_by_all}
use Rattle.params.specs.Params.{Params, Sound}
use Rattle.shares.specs.Rule.{Within, recombine}
use Rattle.shares.specs.Groups.{residue_rule}
use Rattle.shares.specs.Lawful.{residue_laws}
use Rattle.shares.proofs.Pairs.{recombine-in}
use Rattle.polys.specs.Area.{place, shares_of, values, recombined}

factor_some : (h m q : ℕ) → q < h * m → 0 < m
factor_some h zero q l = absurd (omega arith)
factor_some h (suc m) q l = omega arith

module _ (n m : ℕ) (some : 0 < n) where
  -- a share stands inside its polynomial
  pub place_inside : (c i : ℕ) → i < m → place n m c i < (c / n + 1) * m * n
  unfolding place
  place_inside c i l =
      let row : c / n * m + i < (c / n + 1) * m = omega arith in
      let t = mul-add-lt (c / n * m + i) n (c % n) ((c / n + 1) * m) row (mod_below c n some) in
      omega arith

  -- an area of h polynomials has the polynomial of each of its coefficients
  pub polynomial-inside : (h c : ℕ) (area : List ℕ) → c < h * n → length area ≡ h * m * n → (c / n + 1) * m * n ≤ length area
  polynomial-inside h c area l e =
      let d : c / n < h = div_below c n h some l in
      let t = mul-le ((c / n + 1) * m) n (h * m) n (mul-le (c / n + 1) m h m (omega arith) (omega arith)) (omega arith) in
      omega arith

  -- one place is one share of one coefficient
  pub place-apart : (c i k j : ℕ) → i < m → j < m → place n m c i ≡ place n m k j → (c ≡ k) × (i ≡ j)
  unfolding place
  place-apart c i k j h l e =
      let lc = mod_below c n some in
      let lk = mod_below k n some in
      let row : c / n * m + i ≡ k / n * m + j = sym (div-mul-add (c / n * m + i) n (c % n) lc) ∙ ap (λ (q : ℕ). q / n) e ∙ div-mul-add (k / n * m + j) n (k % n) lk in
      let low : c % n ≡ k % n = sym (mod-mul-add (c / n * m + i) n (c % n) lc) ∙ ap (λ (q : ℕ). q % n) e ∙ mod-mul-add (k / n * m + j) n (k % n) lk in
      let high : c / n ≡ k / n = sym (div-mul-add (c / n) m i h) ∙ ap (λ (q : ℕ). q / m) row ∙ div-mul-add (k / n) m j l in
      let share : i ≡ j = sym (mod-mul-add (c / n) m i h) ∙ ap (λ (q : ℕ). q % m) row ∙ mod-mul-add (k / n) m j l in
      (sym (div-add-mod' c n) ∙ ap (λ (q : ℕ). q * n + c % n) high ∙ ap (λ (q : ℕ). k / n * n + q) low ∙ div-add-mod' k n, share)

  -- each place inside h polynomials has its coefficient and its share
  pub place_of : (h q : ℕ) → q < h * m * n → (c : ℕ) × (i : ℕ) × (c < h * n) × (i < m) × (place n m c i ≡ q)
  unfolding place
  place_of h q l =
      let row : q / n < h * m = div_below q n (h * m) some l in
      let more : 0 < m = factor_some h m (q / n) row in
      let low = mod_below q n some in
      let part : q / n / m < h = div_below (q / n) m h more row in
      let c = q / n / m * n + q % n in
      let t = mul-add-lt (q / n / m) n (q % n) h part low in
      let d : c / n ≡ q / n / m = div-mul-add (q / n / m) n (q % n) low in
      let e : c % n ≡ q % n = mod-mul-add (q / n / m) n (q % n) low in (
        c,
        q / n % m,
        omega arith,
        mod_below (q / n) m more,
        ap (λ (a : ℕ). (a * m + q / n % m) * n + c % n) d ∙ ap (λ (a : ℕ). a * n + c % n) (div-add-mod' (q / n) m) ∙ ap (λ (a : ℕ). q / n * n + a) e ∙ div-add-mod' q n,
      )

module _ (n m : ℕ) where
  pub shares-long : (area : List ℕ) (c : ℕ) → length (shares_of n m area c) ≡ m
  unfolding shares_of
  shares-long area c = length-map-range_with_len (λ (i : ℕ). get_or area (place n m c i) 0) 0 m

  pub shares_at : (area : List ℕ) (c i : ℕ) → i < m → get_or (shares_of n m area c) i 0 ≡ get_or area (place n m c i) 0
  unfolding shares_of
  shares_at area c i h = get_or-map-range_with_len (λ (i : ℕ). get_or area (place n m c i) 0) 0 m i i 0 h (omega arith)

  -- a list of those words is the shares
  pub shares-are : (area : List ℕ) (c : ℕ) (xs : List ℕ) → length xs ≡ m → ((i : ℕ) → i < m → get_or xs i 0 ≡ get_or area (place n m c i) 0) → xs ≡ shares_of n m area c
  unfolding shares_of
  shares-are area c xs e f = fill_by_all (λ (i : ℕ). get_or area (place n m c i) 0) xs m 0 e f

  pub shares-same : (area area' : List ℕ) (c : ℕ) → ((i : ℕ) → i < m → get_or area' (place n m c i) 0 ≡ get_or area (place n m c i) 0) → shares_of n m area' c ≡ shares_of n m area c
  shares-same area area' c f = shares-are area c (shares_of n m area' c) (shares-long area' c) (λ i h. shares_at area' c i h ∙ f i h)

  -- the shares of residues are residues
  pub shares-within : (p : ℕ) (area : List ℕ) (c : ℕ) → 0 < n → (c / n + 1) * m * n ≤ length area → Within (residue_rule p) area → Within (residue_rule p) (shares_of n m area c)
  shares-within p area c some e w i l =
      let b : i < m = let long = shares-long area c in omega arith in
      let t = place_inside n m some c i b in
      subst (λ (v : ℕ). v < p) (sym (shares_at area c i b)) (w (place n m c i) (omega arith))

  -- and an area of h polynomials is residues where all its shares are
  pub area-within : (h p : ℕ) (area : List ℕ) → 0 < n → length area ≡ h * m * n → ((c : ℕ) → c < h * n → Within (residue_rule p) (shares_of n m area c)) → Within (residue_rule p) area
  area-within h p area some e w q l =
      let t = place_of n m some h q (omega arith) in
      let c = t.0 in
      let i = t.1 in
      let long = shares-long area c in
      let b : i < length (shares_of n m area c) = let h = t.3 in omega arith in
      subst (λ (v : ℕ). v < p) (shares_at area c i t.3 ∙ ap (λ (j : ℕ). get_or area j 0) t.4) (w c t.2 i b)

module _ (s : Params) (m : ℕ) where
  -- a list of what the shares stand for is the values
  pub values-are : (count : ℕ) (area xs : List ℕ) → length xs ≡ count → ((c : ℕ) → c < count → get_or xs c 0 ≡ recombine (residue_rule s.p) (shares_of s.n m area c)) → xs ≡ values s m count area
  unfolding values
  values-are count area xs e f = fill_by_all (λ (c : ℕ). recombine (residue_rule s.p) (shares_of s.n m area c)) xs count 0 e f

  pub values-long : (count : ℕ) (area : List ℕ) → length (values s m count area) ≡ count
  unfolding values
  values-long count area = length-map-range_with_len (λ (c : ℕ). recombine (residue_rule s.p) (shares_of s.n m area c)) 0 count

  pub values-at : (count : ℕ) (area : List ℕ) (c : ℕ) → c < count → get_or (values s m count area) c 0 ≡ recombine (residue_rule s.p) (shares_of s.n m area c)
  unfolding values
  values-at count area c h = get_or-map-range_with_len (λ (c : ℕ). recombine (residue_rule s.p) (shares_of s.n m area c)) 0 count c c 0 h (omega arith)

  value-inside : (c : ℕ) (area : List ℕ) → 0 < s.n → 1 < s.p → (c / s.n + 1) * m * s.n ≤ length area → Within (residue_rule s.p) area → recombine (residue_rule s.p) (shares_of s.n m area c) < s.p
  value-inside c area some big inside w = recombine-in (residue_rule s.p) (residue_laws s.p big) (shares_of s.n m area c) (shares-within s.n m s.p area c some inside w)

  -- what shares that are residues stand for is a residue
  pub value-below : Sound s → (h c : ℕ) (area : List ℕ) → c < h * s.n → length area ≡ h * m * s.n → Within (residue_rule s.p) area → recombine (residue_rule s.p) (shares_of s.n m area c) < s.p
  value-below sound h c area l long w =
      let some : 0 < s.n = let least = sound.n_least in omega arith in
      let big : 1 < s.p = let a = sound.k_below_p in let b = sound.alpha_below_k in omega arith in
      value-inside c area some big (polynomial-inside s.n m some h c area l long) w

  pub values-residues : (h count : ℕ) (area : List ℕ) → 0 < s.n → 1 < s.p → count ≤ h * s.n → length area ≡ h * m * s.n → Within (residue_rule s.p) area → Within (residue_rule s.p) (values s m count area)
  values-residues h count area some big few long w c l =
      let b : c < count = let e = values-long count area in omega arith in
      let inside = polynomial-inside s.n m some h c area (omega arith) long in
      subst (λ (v : ℕ). v < s.p) (sym (values-at count area c b)) (value-inside c area some big inside w)

  pub recombined-long : (area : List ℕ) → length (recombined s m area) ≡ 2 * s.n
  unfolding recombined
  recombined-long area = values-long (2 * s.n) area

  pub recombined-are : (area xs : List ℕ) → length xs ≡ 2 * s.n → ((c : ℕ) → c < 2 * s.n → get_or xs c 0 ≡ recombine (residue_rule s.p) (shares_of s.n m area c)) → xs ≡ recombined s m area
  unfolding recombined
  recombined-are area xs = values-are (2 * s.n) area xs

  -- two areas whose shares stand for the same coefficients
  pub recombined-same : (area area' : List ℕ) → ((c : ℕ) → c < 2 * s.n → recombine (residue_rule s.p) (shares_of s.n m area' c) ≡ recombine (residue_rule s.p) (shares_of s.n m area c)) → recombined s m area' ≡ recombined s m area
  unfolding recombined
  recombined-same area area' f = values-are (2 * s.n) area (recombined s m area') (values-long (2 * s.n) area') (λ c h. values-at (2 * s.n) area' c h ∙ f c h)
