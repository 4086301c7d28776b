use Rattle.std.proofs.Common.{◌≡◌, ℕ, List, [], ◌∷◌, ◌++◌, rules, get_or, string_bytes, subst, ap, take_all}
use Rattle.refusal.specs.Told.{area_name}
use Rattle.answers.specs.Spelling.{spell, word_text}
use Rattle.runner.specs.Steps.{area_line}
use Rattle.runner.proofs.Fronts.{Front, Ready, nothing, of_line, one_word, ready_front, ready_more, ready_moved, so_far}
use Rattle.runner.proofs.telling.put_area.Goals as goal

pub words-preserved : goal.words-preserved
words-preserved g c =
    let name = area_name c.args.area in
    let words = c.args.words.now in
    let i = c.words.word-index in
    let told : string_bytes c.write-in-words.new.self ≡ string_bytes c.spill.new.text ++ word_text (get_or words i 0) = search rules in
    let moved = ready_moved (g.W.Write.contents c.args.out.now) (g.W.Write.contents c.words.out) (g.W.Write.contents c.spill.new.out) (string_bytes c.words.text) (string_bytes c.spill.new.text) (so_far name words i) c.words.invariant c.in_ok-spill.ensures.all in
    subst (Ready (g.W.Write.contents c.args.out.now) (g.W.Write.contents c.spill.new.out) (string_bytes c.write-in-words.new.self)) (one_word name words i c.words-test.true)
    (ready_more (g.W.Write.contents c.args.out.now) (g.W.Write.contents c.spill.new.out) (string_bytes c.spill.new.text) (string_bytes c.write-in-words.new.self) (so_far name words i) (word_text (get_or words i 0)) told moved)

pub returns-in_err-spill-clause-front : goal.returns-in_err-spill-clause-front
returns-in_err-spill-clause-front g c =
    of_line (g.W.Write.contents c.args.out.now) (g.W.Write.contents c.spill.new.out) (area_name c.args.area) c.args.words.now c.words.word-index
    (ready_front (g.W.Write.contents c.args.out.now) (g.W.Write.contents c.words.out) (g.W.Write.contents c.spill.new.out) (string_bytes c.words.text) (so_far (area_name c.args.area) c.args.words.now c.words.word-index) c.words.invariant c.in_err-spill.ensures.front)

pub returns-in_err-write-2-clause-front : goal.returns-in_err-write-2-clause-front
returns-in_err-write-2-clause-front g c =
    of_line (g.W.Write.contents c.args.out.now) (g.W.Write.contents c.spill.new.out) (area_name c.args.area) c.args.words.now c.words.word-index
    (ready_front (g.W.Write.contents c.args.out.now) (g.W.Write.contents c.words.out) (g.W.Write.contents c.spill.new.out) (string_bytes c.words.text) (so_far (area_name c.args.area) c.args.words.now c.words.word-index) c.words.invariant c.in_ok-spill.ensures.front)

pub returns-in_err-write-3-clause-front : goal.returns-in_err-write-3-clause-front
returns-in_err-write-3-clause-front g c =
    of_line (g.W.Write.contents c.args.out.now) (g.W.Write.contents c.words.out) (area_name c.args.area) c.args.words.now c.words.word-index
    (ready_front (g.W.Write.contents c.args.out.now) (g.W.Write.contents c.words.out) (g.W.Write.contents c.words.out) (string_bytes c.words.text) (so_far (area_name c.args.area) c.args.words.now c.words.word-index) c.words.invariant (nothing (g.W.Write.contents c.words.out) (string_bytes c.words.text)))

pub returns-clause-front : goal.returns-clause-front
returns-clause-front g c =
    let name = area_name c.args.area in
    let words = c.args.words.now in
    let all : so_far name words c.words.word-index ++ (10 ∷ []) ≡ area_line c.args.area words =
    ap (λ (ws : List ℕ). (name ++ spell word_text ws) ++ (10 ∷ [])) (take_all c.words.word-index words c.words-test.false) in
    let told : string_bytes c.write-2.new.self ≡ string_bytes c.words.text ++ (10 ∷ []) = search rules in
    subst (Front (g.W.Write.contents c.args.out.now) (g.W.Write.contents c.put.new.out)) all
    (ready_front (g.W.Write.contents c.args.out.now) (g.W.Write.contents c.words.out) (g.W.Write.contents c.put.new.out) (string_bytes c.write-2.new.self) (so_far name words c.words.word-index ++ (10 ∷ []))
    (ready_more (g.W.Write.contents c.args.out.now) (g.W.Write.contents c.words.out) (string_bytes c.words.text) (string_bytes c.write-2.new.self) (so_far name words c.words.word-index) (10 ∷ []) told c.words.invariant)
    (subst (Front (g.W.Write.contents c.words.out) (g.W.Write.contents c.put.new.out)) c.as_bytes.ensures.value c.put.ensures.front))
