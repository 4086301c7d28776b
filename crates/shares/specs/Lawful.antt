-- Both groups obey the laws.
use Rattle.std.specs.Prelude.{◌≡◌, ℕ, ◌+◌, ◌-◌, ◌%◌, ◌<◌}
use Rattle.std.proofs.Common.{sym, ap, ◌∙◌, add_comm, add_assoc, add-zero, mod-lt, mod-eq_of_lt, arith}
use Rattle.std.proofs.Math.Nat.{mod_self, mod-add-mod, add-mod-mod}
use Rattle.std.proofs.lemmas.Nat.{xor_comm, xor_lt}
use Rattle.std.specs.Int.Bits.{xor_assoc, xor_zero_r, xor_self}
use Rattle.params.specs.Params.{Params, Sound}
use Rattle.shares.specs.Rule.{Laws}
use Rattle.shares.specs.Groups.{word_rule, residue_rule}

pub word_laws : Laws word_rule
word_laws = record {
  comm = xor_comm;
  assoc = xor_assoc;
  neutral = λ a _. xor_zero_r a;
  undoes = λ a _. xor_self a;
  closed = λ a b h k. xor_lt 32 a b h k;
  unit_in = omega arith;
  inverse_in = λ a h. h;
}

pub residue_laws : (p : ℕ) → 1 < p → Laws (residue_rule p)
residue_laws p big = record {
  comm = λ a b. ap (λ n. n % p) (add_comm a b);
  assoc = λ a b c. mod-add-mod (a + b) p c ∙ ap (λ n. n % p) (add_assoc a b c) ∙ sym (add-mod-mod a (b + c) p);
  neutral = λ a h. ap (λ n. n % p) (add-zero a) ∙ mod-eq_of_lt h;
  undoes = λ a h. let e : a + (p - a) ≡ p = omega arith in add-mod-mod a (p - a) p ∙ ap (λ n. n % p) e ∙ mod_self p;
  closed = λ a b _ _. mod-lt (a + b) (omega arith);
  unit_in = omega arith;
  inverse_in = λ a _. mod-lt (p - a) (omega arith);
}

-- and so do the residues of every set's modulus
pub set_laws : (s : Params) → Sound s → Laws (residue_rule s.p)
set_laws s sound = residue_laws s.p (omega (arith, sound.alpha_below_k, sound.k_below_p))
