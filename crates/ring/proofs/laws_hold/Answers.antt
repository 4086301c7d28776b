use Rattle.std.proofs.Common.{ℕ, sym, ap, ◌∙◌, arith}
use Rattle.ring.specs.Ring.{plus, times_x, product}
use Rattle.ring.specs.Laws.{constant, iterate}
use Rattle.ring.proofs.Polynomials.{residues_mod, plus-residues, minus-residues, length-plus, length-minus, plus_comm, plus_assoc, plus_zero, minus_plus}
use Rattle.ring.proofs.Algebra as algebra
use Rattle.ring.proofs.Centring.{residue_centre, centre_residue}
use Rattle.ring.proofs.laws_hold.Goals as goal

pub returns : goal.returns
returns c = record {
  ring = λ n p some more. record {
    plus_closed = λ a b. (length-plus p a.coeffs b.coeffs (a.proper.0 ∙ sym b.proper.0) ∙ b.proper.0, plus-residues p a.coeffs b.coeffs (omega arith));
    plus_comm = λ a b. plus_comm p a.coeffs b.coeffs;
    plus_assoc = λ a b c. plus_assoc p a.coeffs b.coeffs c.coeffs;
    plus_zero = λ a. ap (λ (m : ℕ). plus p a.coeffs (constant m 0)) (sym a.proper.0) ∙ plus_zero p a.coeffs ∙ residues_mod p a.coeffs a.proper.1;
    minus_closed = λ a b. (length-minus p a.coeffs b.coeffs (a.proper.0 ∙ sym b.proper.0) ∙ b.proper.0, minus-residues p a.coeffs b.coeffs (omega arith));
    minus_plus = λ a b. minus_plus p a.coeffs b.coeffs (omega arith) (a.proper.0 ∙ sym b.proper.0) ∙ residues_mod p a.coeffs a.proper.1;
    product_closed = λ a b. (algebra.length-product p a.coeffs b.coeffs ∙ b.proper.0, algebra.product-residues p a.coeffs b.coeffs (omega arith));
    product_comm = λ a b. algebra.product_comm p a.coeffs b.coeffs (a.proper.0 ∙ sym b.proper.0) a.proper.1 b.proper.1;
    product_assoc = λ a b c. algebra.product_assoc p a.coeffs b.coeffs c.coeffs (a.proper.0 ∙ sym b.proper.0) (b.proper.0 ∙ sym c.proper.0) b.proper.1 c.proper.1;
    product_one = λ a. ap (λ (m : ℕ). product p a.coeffs (constant m 1)) (sym a.proper.0) ∙ algebra.product_one p a.coeffs a.proper.1;
    product_plus = λ a b c. algebra.product_plus p a.coeffs b.coeffs c.coeffs (b.proper.0 ∙ sym c.proper.0);
    plus_product = λ a b c. algebra.plus_product p a.coeffs b.coeffs c.coeffs (a.proper.0 ∙ sym b.proper.0);
    product_x = λ a. ap (λ (m : ℕ). product p (times_x p (constant m 1)) a.coeffs) (sym a.proper.0) ∙ algebra.product_x p a.coeffs more a.proper.1;
    x_to_n = λ a. ap (λ (m : ℕ). iterate m (times_x p) a.coeffs) (sym a.proper.0) ∙ algebra.x_to_n p a.coeffs;
  };
  centring = λ p some. record { residue_centre = residue_centre p; centre_residue = λ z. centre_residue p z some };
}
