use Rattle.std.proofs.Common.{◌≡◌, ℕ, ◌+◌, ◌<◌, ◌≤◌, map, length, sym, refl, ap, ◌∙◌, subst, add-zero, add_assoc, arith}
use Rattle.std.specs.List.{range_with_len}
use Rattle.std.proofs.lemmas.List.{take_all}
use Rattle.shake.specs.Sponge.{shake_byte}
use Rattle.shake.specs.Progress.{Reading}
use Rattle.shake.proofs.Output.{one_more}
use Rattle.shake.proofs.Squeezer.squeeze.Goals as goal

pub loop-byte-init : goal.loop-byte-init
loop-byte-init c = λ m i a. (refl, subst (λ (k : ℕ). Reading m k c.args.self.now) (sym (add-zero i)) a)

pub loop-byte-preserved : goal.loop-byte-preserved
loop-byte-preserved c =
    λ m i a.
    let p = c.loop-byte.invariant m i a in
    let n = c.next_byte.ensures m (i + c.loop-byte.byte-index) p.1 in
    let l : c.loop-byte.byte-index < length c.loop-byte.out = omega arith in (
      one_more m c.loop-byte.out i c.loop-byte.byte-index c.next_byte.result l p.0 n.0,
      subst (λ (k : ℕ). Reading m k c.next_byte.new.self) (add_assoc i c.loop-byte.byte-index 1) n.1,
    )

pub returns : goal.returns
returns c =
    λ m i a.
    let p = c.loop-byte.invariant m i a in
    let e : c.loop-byte.byte-index ≡ length c.args.out.now = omega arith in
    let l : length c.loop-byte.out ≤ c.loop-byte.byte-index = omega arith in
    let all = take_all c.loop-byte.byte-index c.loop-byte.out l in (
      sym all ∙ p.0 ∙ ap (λ (k : ℕ). map (shake_byte m) (range_with_len i k)) e,
      subst (λ (k : ℕ). Reading m (i + k) c.loop-byte.self) e p.1,
    )
