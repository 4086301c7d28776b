use Rattle.std.proofs.Common.{◌≡◌, ℕ, ◌+◌, ◌-◌, ◌*◌, eqb, List, [], ◌∷◌, length, take, drop, None, Some, IsSomeAnd, Option, sym, ap, ◌∙◌, subst, arith, length-drop}
use Rattle.std.proofs.lemmas.Bool.Decides.{nat_tests}
use Rattle.params.proofs.Facts.{n_quarters}
use Rattle.params.specs.Params.{Params}
use Rattle.refusal.specs.declared.Refusal.TheVariants.{OutOfReach, UnusedCode}
use Rattle.std.proofs.lemmas.List.{drop-drop, get_or-drop}
use Rattle.std.proofs.lemmas.Result.{err_from_is_err_and}
use Rattle.record.proofs.Hits.{hits, hits_two, no_index, passes}
use Rattle.record.proofs.Rewriting.{written_again}
use Rattle.record.proofs.reader.read.Goals as goal
use Rattle.record.specs.Layout.{size, kind, num2, num4, z_of, unpacked, z_part, c_part}
use Rattle.refusal.specs.Tests.{at_index}
use Rattle.record.specs.Reading.{Parts, far, size_test, kind_test, reach_test, code_test}
use Rattle.record.specs.declared.view.Record.{Record}
use Rattle.search.specs.First.{first_at}

-- where the parts of a body lie in the bytes
z-place : (s : Params) (bytes body z : List ℕ) → body ≡ drop 6 bytes → z ≡ take (4 * s.n) (drop 34 body) → z ≡ z_part s bytes
z-place s bytes body z b e = e ∙ ap (λ (xs : List ℕ). take (4 * s.n) (drop 34 xs)) b ∙ ap (take (4 * s.n)) (drop-drop 34 6 bytes)

c-place : (s : Params) (bytes body c : List ℕ) → body ≡ drop 6 bytes → c ≡ drop (34 + 4 * s.n) body → c ≡ c_part s bytes
c-place s bytes body c b e =
    e ∙ ap (drop (34 + 4 * s.n)) b ∙ drop-drop (34 + 4 * s.n) 6 bytes ∙ ap (λ (k : ℕ). drop k bytes) (omega arith)

-- the tests of the parts are those of the bytes
reach-there : (s : Params) (bytes z : List ℕ) → z ≡ z_part s bytes → at_index OutOfReach (first_at (far s) (z_of z)) ≡ reach_test s bytes
reach-there s bytes z e = ap (λ (xs : List ℕ). at_index OutOfReach (first_at (far s) (z_of xs))) e

codes-there : (s : Params) (bytes c : List ℕ) → c ≡ c_part s bytes → at_index UnusedCode (first_at (λ code. eqb code 2) (unpacked c)) ≡ code_test s bytes
codes-there s bytes c e = ap (λ (xs : List ℕ). at_index UnusedCode (first_at (λ code. eqb code 2) (unpacked xs))) e

counter-place : (bytes body : List ℕ) → body ≡ drop 6 bytes → num2 body 0 ≡ num2 bytes 6
counter-place bytes body b = ap (λ (xs : List ℕ). num2 xs 0) b ∙ omega (arith, get_or-drop 6 bytes 0 0, get_or-drop 6 bytes 1 0)

-- what the first two tests let through
length_field : (s : Params) (bytes : List ℕ) → size_test s bytes ≡ None → num4 bytes 0 ≡ size s - 4
length_field s bytes e = grind (arith, nat_tests)

kind_field : (s : Params) (bytes : List ℕ) → kind_test s bytes ≡ None → num2 bytes 4 ≡ kind s
kind_field s bytes e = grind (arith, nat_tests)

pub returns-in_err-body : goal.returns-in_err-body
returns-in_err-body g c =
    let s = g.S.ParamSet.params in
    let bytes = c.args.bytes.now in
    let p = err_from_is_err_and c.from_residual.result c.from_residual.ensures.1 in
    rw (p.1, p.2) (hits_two (size_test s bytes) (kind_test s bytes) (reach_test s bytes ∷ code_test s bytes ∷ []) _ c.in_err-body.ensures)

-- what is known of the parts once they are there
parts_of : (s : Params) (body : List ℕ) (o : Option Record) (r : Record) → IsSomeAnd o (Parts s body) → o ≡ Some r → Parts s body r
parts_of s body o r h e = subst (λ (x : Option Record). IsSomeAnd x (Parts s body)) e h

pub returns-in_err-check_reach : goal.returns-in_err-check_reach
returns-in_err-check_reach g c =
    let s = g.S.ParamSet.params in
    let bytes = c.args.bytes.now in
    let opens = c.in_ok-body.ensures in
    let parts = parts_of s c.in_ok-body.body.now _ _ c.split_body.ensures c.in_ok-record.ensures.ok_part in
    let z = z-place s bytes _ _ opens.3 parts.2 in
    let p = err_from_is_err_and c.from_residual-in_err-check_reach.result c.from_residual-in_err-check_reach.ensures.1 in
    let hit = sym (reach-there s bytes _ z) ∙ c.in_err-check_reach.ensures in
    rw (p.1, p.2) (passes (size_test s bytes) _ opens.0 ∙ passes (kind_test s bytes) _ opens.1 ∙ hits (reach_test s bytes) _ _ hit)

pub check_codes-requires : goal.check_codes-requires
check_codes-requires g c =
    let opens = c.in_ok-body.ensures in
    let parts = parts_of g.S.ParamSet.params c.in_ok-body.body.now _ _ c.split_body.ensures c.in_ok-record.ensures.ok_part in
    let rest = ap length parts.3 in
    omega (arith, rest, length-drop (34 + 4 * g.S.ParamSet.params.n) c.in_ok-body.body.now, ap length opens.3, length-drop 6 c.args.bytes.now, opens.2, g.S.ParamSet.sound.n_most)

pub returns-in_err-check_codes : goal.returns-in_err-check_codes
returns-in_err-check_codes g c =
    let s = g.S.ParamSet.params in
    let bytes = c.args.bytes.now in
    let opens = c.in_ok-body.ensures in
    let parts = parts_of s c.in_ok-body.body.now _ _ c.split_body.ensures c.in_ok-record.ensures.ok_part in
    let z = z-place s bytes _ _ opens.3 parts.2 in
    let codes = c-place s bytes _ _ opens.3 parts.3 in
    let p = err_from_is_err_and c.from_residual-in_err-check_codes.result c.from_residual-in_err-check_codes.ensures.1 in
    let near = sym (reach-there s bytes _ z) ∙ c.in_ok-check_reach.ensures in
    let hit = sym (codes-there s bytes _ codes) ∙ c.in_err-check_codes.ensures in
    rw (p.1, p.2) (passes (size_test s bytes) _ opens.0 ∙ passes (kind_test s bytes) _ opens.1 ∙ passes (reach_test s bytes) _ near ∙ hits (code_test s bytes) _ _ hit)

pub returns : goal.returns
returns g c =
    let s = g.S.ParamSet.params in
    let sound = g.S.ParamSet.sound in
    let bytes = c.args.bytes.now in
    let opens = c.in_ok-body.ensures in
    let parts = parts_of s c.in_ok-body.body.now _ _ c.split_body.ensures c.in_ok-record.ensures.ok_part in
    let z = z-place s bytes _ _ opens.3 parts.2 in
    let codes = c-place s bytes _ _ opens.3 parts.3 in
    let near = sym (reach-there s bytes _ z) ∙ c.in_ok-check_reach.ensures in
    let used = sym (codes-there s bytes _ codes) ∙ c.in_ok-check_codes.ensures in (
      passes (size_test s bytes) _ opens.0 ∙ passes (kind_test s bytes) _ opens.1 ∙ passes (reach_test s bytes) _ near ∙ passes (code_test s bytes) _ used,
      parts.0 ∙ counter-place bytes _ opens.3,
      parts.1 ∙ ap (λ (xs : List ℕ). take 32 (drop 2 xs)) opens.3 ∙ ap (take 32) (drop-drop 2 6 bytes),
      z,
      codes,
      written_again s bytes (omega (arith, sound.k_below_p, sound.alpha_below_k, sound.alpha_some)) (n_quarters s sound) (λ i. (c.type_inv.bytes i).fits) opens.2
          (length_field s bytes opens.0) (kind_field s bytes opens.1) (no_index UnusedCode _ used),
    )
