use Rattle.std.proofs.Common.{ℕ, ◌+◌, string_bytes, rules, refl, sym, ap, ◌∙◌, subst}
use Rattle.std.specs.Io.Iter.{split_byte, split_known_bytes}
use Rattle.std.specs.Iterator.Adapters.{enumerate_source, enumerate_count}
use Rattle.runner.specs.Steps.{ComesTo, telling_text}
use Rattle.runner.proofs.SoFar.{ReadsLine, begin, go_on, finish, stop, stop_within, kept, if_ok}
use Rattle.runner.proofs.carry_all.Goals as goal

pub lines-init : goal.lines-init
lines-init g c =
    let it = c.into_iter-index-iterator.ensures.into_iter_gives in
    let source = ap enumerate_source it ∙ c.enumerate-index-items.ensures.source in
    let count = ap enumerate_count it ∙ c.enumerate-index-items.ensures.count in
    record {
      can = search rules;
      ends = search rules;
      newline = ap split_byte source ∙ c.split.ensures.byte;
      reads = rw (source, count) (begin (g.R.Read.remaining c.args.input) _ (g.W.Write.contents c.args.out.now) c.split.ensures.bytes);
    }

pub lines-preserved : goal.lines-preserved
lines-preserved g c =
    let inv = c.lines.invariant in
    let steps = c.in-Some.ensures.steps in
    let left = split_known_bytes g.R.Read.remaining (enumerate_source c.lines.index-iterator) in
    let left' = split_known_bytes g.R.Read.remaining (enumerate_source c.next.new.self) in
    let line = c.as_slice.result.now in
    let read : ReadsLine left left' line = subst (ReadsLine left left') (sym c.as_slice.ensures.value) (rw (c.in_ok-line.was, inv.newline) at steps.0.2) in
    let comes = subst (λ (n : ℕ). ComesTo (n + 1) c.lines.world line c.told_line.new.world (telling_text c.in_ok-told.told (string_bytes c.told_line.new.text))) steps.1 c.in_ok-told.ensures in
    record {
      can = search rules;
      ends = search rules;
      newline = steps.0.1 ∙ inv.newline;
      reads = rw steps.2 (go_on (g.R.Read.remaining c.args.input) left left' (enumerate_count c.lines.index-iterator) c.lines.world c.told_line.new.world (g.W.Write.contents c.args.out.now) (g.W.Write.contents c.lines.out) (g.W.Write.contents c.put_telling.new.out) line (telling_text c.in_ok-told.told (string_bytes c.told_line.new.text)) inv.reads read comes c.in_ok-put_telling.ensures.all);
    }

pub returns-in_err-put_telling-clause-front : goal.returns-in_err-put_telling-clause-front
returns-in_err-put_telling-clause-front g c =
    let inv = c.lines.invariant in
    let steps = c.in-Some.ensures.steps in
    let left = split_known_bytes g.R.Read.remaining (enumerate_source c.lines.index-iterator) in
    let left' = split_known_bytes g.R.Read.remaining (enumerate_source c.next.new.self) in
    let line = c.as_slice.result.now in
    let read : ReadsLine left left' line = subst (ReadsLine left left') (sym c.as_slice.ensures.value) (rw (c.in_ok-line.was, inv.newline) at steps.0.2) in
    let comes = subst (λ (n : ℕ). ComesTo (n + 1) c.lines.world line c.told_line.new.world (telling_text c.in_ok-told.told (string_bytes c.told_line.new.text))) steps.1 c.in_ok-told.ensures in
    let front = c.in_err-put_telling.ensures.front in
    stop_within (g.R.Read.remaining c.args.input) left left' (enumerate_count c.lines.index-iterator) front.0 c.lines.world c.told_line.new.world (g.W.Write.contents c.args.out.now) (g.W.Write.contents c.lines.out) (g.W.Write.contents c.put_telling.new.out) line (telling_text c.in_ok-told.told (string_bytes c.told_line.new.text)) inv.reads read comes front.1

pub returns-in_err-line-clause-front : goal.returns-in_err-line-clause-front
returns-in_err-line-clause-front g c = stop (g.R.Read.remaining c.args.input) _ _ _ (g.W.Write.contents c.args.out.now) _ _ c.lines.invariant.reads (kept (g.W.Write.contents c.lines.out))

pub returns-in_err-told-clause-front : goal.returns-in_err-told-clause-front
returns-in_err-told-clause-front g c = stop (g.R.Read.remaining c.args.input) _ _ _ (g.W.Write.contents c.args.out.now) _ _ c.lines.invariant.reads (kept (g.W.Write.contents c.lines.out))

pub returns-clause-front : goal.returns-clause-front
returns-clause-front g c = stop (g.R.Read.remaining c.args.input) _ _ _ (g.W.Write.contents c.args.out.now) _ _ c.lines.invariant.reads c.flush.ensures.bytes

pub returns-clause-all : goal.returns-clause-all
returns-clause-all g c =
    if_ok c.flush.result _ (finish (g.R.Read.remaining c.args.input) _ _ _ (g.W.Write.contents c.args.out.now) _ _ c.lines.invariant.reads c.in-None.ensures.steps.0.2 c.flush.ensures.bytes)

pub returns-in_err-text-clause-front : goal.returns-in_err-text-clause-front
returns-in_err-text-clause-front g c = stop (g.R.Read.remaining c.args.input) _ _ _ (g.W.Write.contents c.args.out.now) _ _ (begin (g.R.Read.remaining c.args.input) (g.R.Read.remaining c.args.input) (g.W.Write.contents c.args.out.now) refl) (kept (g.W.Write.contents c.args.out.now))
