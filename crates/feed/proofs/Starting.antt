-- A watch that starts over a list is a health check of it.
use Rattle.std.proofs.Common.{◌≡◌, ℕ, ◌≤◌, false, sym, ap, ◌∙◌, subst}
use Rattle.words.proofs.Checks.{steady_from_start}
use Rattle.words.specs.Flow.{Flow}
use Rattle.words.specs.Health.{Steady, checked, health_flow}
use Rattle.words.specs.declared.watch.Watch.{Watch}

pub started : (w : Watch) (c : ℕ) (f g : Flow) → g ≡ f → w.cutoff ≡ c → w.last ≡ 0 → w.run ≡ 0 → w.failed ≡ false → 2 ≤ c → Steady c f (health_flow w g)
started w c f g s e l r b low =
    let is : health_flow w f ≡ checked c 0 0 f.words f.mark f.origin = cc in
    subst (Steady c f) (sym (ap (health_flow w) s ∙ is)) (steady_from_start c f low)
