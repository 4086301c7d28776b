use Rattle.std.proofs.Common.{◌≡◌, ℕ, List, ap, ◌∙◌}
use Rattle.keccak.specs.Keccak.{theta, rho, pi, chi, iota, round}
use Rattle.keccak.proofs.one_round.Goals as goal

of_steps : (rc : ℕ) (a b c d : List ℕ) → b ≡ theta a → c ≡ pi (rho b) → d ≡ chi c → iota rc d ≡ round rc a
unfolding round
of_steps rc a b c d p q r = ap (iota rc) (r ∙ ap chi (q ∙ ap (λ (s : List ℕ). pi (rho s)) p))

pub returns : goal.returns
unfolding iota
returns c = of_steps c.args.constant c.args.a.now _ _ _ c.theta_step-mixed.ensures c.rho_pi_steps-moved.ensures c.chi_step-next.ensures
