use Rattle.std.proofs.Common.{◌≡◌, ℕ, ◌+◌, ◌*◌, ◌%◌, ◌<◌, length, get_or, sym, ap, ◌∙◌, subst, arith, rules}
use Rattle.words.proofs.Spendings.{spent_none, spent_as, spent_then, short_then, short_of, times_none, times_more, times_below}
use Rattle.shares.specs.Groups.{residue_rule, word_of}
use Rattle.shares.specs.Lawful.{set_laws}
use Rattle.shares.specs.Refresh.{pairs}
use Rattle.shares.proofs.Folding.{Left, left-none, left-more, left-all}
use Rattle.linear.proofs.Sharewise.{word_zeros, word_public}
use Rattle.gadgets.proofs.convert.to_words.Goals as goal

pub loop-share-init : goal.loop-share-init
loop-share-init g c =
    let p = g.P.ParamSet.params.p in
    let u = residue_rule p in
    let laws = set_laws g.P.ParamSet.params g.P.ParamSet.sound in
    (subst (λ (v : ℕ). Left u laws c.args.x v 0) (sym (word_zeros g.row.M)) (left-none u laws c.args.x c.requires.within), spent_as (spent_none _) (sym (times_none (33 * pairs g.row.M))))

pub sec_add_modp-requires : goal.sec_add_modp-requires
sec_add_modp-requires g c =
    let hx : length c.args.x ≡ g.row.M = search rules in
    let w = c.requires.within c.loop-share.share-index (omega arith) in
    let e : word_of c.in_ok-part.part ≡ get_or c.args.x c.loop-share.share-index 0 = c.in_ok-part.ensures.by.1.2 ∙ word_public g.row.M _ c.requires.some c.public.ensures in
    let v : word_of c.in_ok-part.part < g.P.ParamSet.params.p = omega arith in
    let f = c.loop-share.invariant.0.in_range in
    search rules

pub returns-in_err-part : goal.returns-in_err-part
returns-in_err-part g c =
    let t = times_below c.loop-share.share-index g.row.M (33 * pairs g.row.M) c.loop-share-test.true in
    let s = short_of {b = g.row.M * (33 * pairs g.row.M)} (short_then c.loop-share.invariant.1 c.in_err-part.ensures.by) (omega arith) in
    search rules

pub returns-in_err-sum : goal.returns-in_err-sum
returns-in_err-sum g c =
    let t = times_below c.loop-share.share-index g.row.M (33 * pairs g.row.M) c.loop-share-test.true in
    let s = short_of {b = g.row.M * (33 * pairs g.row.M)} (short_then (spent_then c.loop-share.invariant.1 c.in_ok-part.ensures.by.0) c.in_err-sum.ensures.by) (omega arith) in
    search rules

pub loop-share-preserved : goal.loop-share-preserved
loop-share-preserved g c =
    let hx : length c.args.x ≡ g.row.M = search rules in
    let p = g.P.ParamSet.params.p in
    let u = residue_rule p in
    let laws = set_laws g.P.ParamSet.params g.P.ParamSet.sound in
    let i = c.loop-share.share-index in
    let e : word_of c.in_ok-part.part ≡ get_or c.args.x i 0 = c.in_ok-part.ensures.by.1.2 ∙ word_public g.row.M _ c.requires.some c.public.ensures in
    let d = c.in_ok-sum.ensures.by in
    let v = d.1 ∙ ap (λ (y : ℕ). (word_of c.loop-share.sum + y) % p) e in (
      subst (λ (z : ℕ). Left u laws c.args.x z (i + 1)) (sym v) (left-more u laws c.args.x (word_of c.loop-share.sum) i (omega arith) c.requires.within c.loop-share.invariant.0),
      spent_as (spent_then (spent_then c.loop-share.invariant.1 c.in_ok-part.ensures.by.0) d.0) (let t = times_more i (33 * pairs g.row.M) in omega arith),
    )

pub returns : goal.returns
returns g c =
    let hx : length c.args.x ≡ g.row.M = search rules in
    let p = g.P.ParamSet.params.p in
    let at : c.loop-share.share-index ≡ g.row.M = omega arith in
    record {
      by = (
        spent_as c.loop-share.invariant.1 (ap (λ (n : ℕ). n * (33 * pairs g.row.M)) at),
        left-all (residue_rule p) (set_laws g.P.ParamSet.params g.P.ParamSet.sound) c.args.x (word_of c.loop-share.sum) c.loop-share.share-index (omega arith) c.loop-share.invariant.0,
      );
    }
