use Rattle.std.proofs.Common.{ℕ, ap, ◌∙◌, sym, subst, vec_items, rules}
use Rattle.std.specs.Str.Iter.{split_has_more, split_text}
use Rattle.std.specs.Str.Pattern.{FindsChar, IsSplitAtFirstMatch}
use Rattle.std.proofs.lemmas.Result.{err_from_is_err_and}
use Rattle.script.proofs.Passed.{refused_judged}
use Rattle.script.proofs.Rows.{Along, along_start, along-more, no_part}
use Rattle.script.proofs.Split.{part}
use Rattle.script.specs.Answers.{NoneIs}
use Rattle.script.specs.Words.{Writes}
use Rattle.script.proofs.decimal.numbers.Goals as goal

pub words-init : goal.words-init
words-init g c =
    let it = c.into_iter-word-iterator.ensures.into_iter_gives in
    let split = c.split-word-items.ensures in
    record {
      can = search rules;
      ends = search rules;
      spaces = rw it split.pattern;
      along = along_start _ _ _ _ _ (ap split_has_more it ∙ split.has_more) (ap split_text it ∙ split.text) c.new-values.ensures.items;
    }

pub returns-in_err-read : goal.returns-in_err-read
returns-in_err-read g c =
    let steps = c.in-Some.ensures.steps in
    let inv = c.words.invariant in
    let cut = part _ _ _ _ (subst (λ (space : ℕ). IsSplitAtFirstMatch (FindsChar space) (split_text c.words.word-iterator) c.in-Some.word.now (split_has_more c.next.new.self) (split_text c.next.new.self)) inv.spaces steps.1.1) in
    refused_judged (λ v. Writes g.T.Entry.writes c.args.text.now (vec_items v)) (NoneIs (g.T.Entry.writes c.in-Some.word.now)) (NoneIs (Writes g.T.Entry.writes c.args.text.now)) c.in_err-read.field-0.0 c.from_residual.result
    (err_from_is_err_and c.from_residual.result c.from_residual.ensures.1) (no_part g.T.Entry.writes g.met.T.Entry.solid _ _ _ _ _ _ (inv.along.on (sym steps.0)) cut) c.in_err-read.ensures

pub words-preserved : goal.words-preserved
words-preserved g c =
    let steps = c.in-Some.ensures.steps in
    let inv = c.words.invariant in
    let cut = part _ _ _ _ (subst (λ (space : ℕ). IsSplitAtFirstMatch (FindsChar space) (split_text c.words.word-iterator) c.in-Some.word.now (split_has_more c.next.new.self) (split_text c.next.new.self)) inv.spaces steps.1.1) in
    record {
      can = search rules;
      ends = search rules;
      spaces = steps.1.0 ∙ inv.spaces;
      along = subst (Along g.T.Entry.writes c.args.text.now (split_has_more c.next.new.self) (split_text c.next.new.self)) (sym c.in_ok-push.ensures.items) (along-more g.T.Entry.writes g.met.T.Entry.solid _ _ _ _ _ _ (inv.along.on (sym steps.0)) cut _ c.in_ok-read.ensures);
    }
