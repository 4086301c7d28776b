use Rattle.std.proofs.Common.{◌≡◌, ℕ, List, [], ◌++◌, replicate, sym, ap, ◌∙◌, subst}
use Rattle.challenge.proofs.challenge.Goals as goal
use Rattle.challenge.proofs.Ternary.{challenge_proper, challenge_ternary}
use Rattle.record.specs.Writing.{Ternary}
use Rattle.ring.specs.Laws.{Proper}
use Rattle.std.specs.List.{AllByRecursion, flat_map}
use Rattle.challenge.specs.Challenge.{challenge, filled, message, stream}
use Rattle.record.specs.Layout.{le2, le4}
use Rattle.shake.specs.Progress.{Absorbing}
use Rattle.std.proofs.lemmas.List.{append_assoc}

pub returns : goal.returns
unfolding challenge
returns g c =
    let s = g.S.ParamSet.params in
    let front = flat_map le4 c.args.r.now in
    let digest = c.args.digest.now in
    let P : List ℕ → Type 0 = λ m. Absorbing m c.absorb-2.new.self in
    let whole : (front ++ digest) ++ c.to_le_bytes.result ≡ message c.args.r.now digest c.args.counter =
    ap (λ (bs : List ℕ). (front ++ digest) ++ bs) c.to_le_bytes.ensures ∙ append_assoc front digest (le2 c.args.counter) in
    let hashed = subst P whole (c.absorb-2.ensures _ (c.absorb.ensures _ (c.absorb_residues.ensures [] c.new-hasher.ensures))) in
    let is : c.fill_from.new.c ≡ challenge s c.args.r.now digest c.args.counter =
    c.fill_from.ensures _ (c.finish.ensures _ hashed)
    ∙ ap (filled s s.alpha (stream (message c.args.r.now digest c.args.counter))) (c.fill.ensures.after (λ y e. e) ∙ ap (λ (k : ℕ). replicate k 0) c.requires) in
    record {
      is = is;
      polynomial = subst (Proper s.n s.p) (sym is) (challenge_proper s g.S.ParamSet.sound c.args.r.now digest c.args.counter);
      ternary = subst (AllByRecursion (Ternary s)) (sym is) (challenge_ternary s c.args.r.now digest c.args.counter);
    }
