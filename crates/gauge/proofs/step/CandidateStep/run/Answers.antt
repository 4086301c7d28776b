use Rattle.std.proofs.Common.{rules, ◌≡◌, ℕ, ◌%◌, ◌^◌, cond, List, Option, Some, None, length, take, replicate, sym, ap, ◌∙◌, ltb, arith}
use Rattle.std.proofs.lemmas.Bool.{cond-true, cond-false, lt-ltb, le-ltb}
use Rattle.std.proofs.lemmas.List.{take_all}
use Rattle.std.specs.Option.{unwrap_or}
use Rattle.plain.specs.Nonces.{bits}
use Rattle.shares.specs.Groups.{word_of}
use Rattle.linear.proofs.Sharewise.{word_zeros}
use Rattle.steps.specs.Candidate.{Judged, candidate_of}
use Rattle.words.specs.Flow.{Flow}
use Rattle.words.specs.Tapes.{tape_flow}
use Rattle.gauge.proofs.step.CandidateStep.run.Goals as goal

-- a refused candidate leaves zeros
judged : (l x m : ℕ) (o : Option (List ℕ)) → Judged l x o → word_of (unwrap_or o (replicate m 0)) ≡ cond (ltb x l) x 0
judged l x m (Some z) j = j.1 ∙ sym (cond-true (ltb x l) x 0 (lt-ltb x l j.0))
judged l x m None j = word_zeros m ∙ sym (cond-false (ltb x l) x 0 (le-ltb x l j))

pub returns-in-Ok : goal.returns-in-Ok
returns-in-Ok g c =
    let u = g.S.ParamSet.params in
    let m = g.row.M in
    let d = c.in-Ok.ensures.by in
    let long : length c.args.x ≡ m = search rules in
    let ws = (tape_flow c.of_few-nonces.result.words.now c.of_few-nonces.result.at).words in
    let whole : ws ≡ c.args.x = ap (λ (f : Flow). f.words) c.of_few-nonces.ensures in
    let all : take m ws ≡ c.args.x = ap (take m) whole ∙ take_all m c.args.x (omega arith) in
    let same : candidate_of c.candidate_bits.result m ws ≡ word_of c.args.x % 2 ^ bits u = ap (λ (xs : List ℕ). word_of xs % 2 ^ c.candidate_bits.result) all ∙ ap (λ (b : ℕ). word_of c.args.x % 2 ^ b) c.candidate_bits.ensures.is in
    let v = judged c.candidate_limit.result.value (candidate_of c.candidate_bits.result m ws) m c.in-Ok.accepted d.2 in
    record {
      by = (
        d.1,
        ap word_of c.unwrap_or.ensures ∙ v ∙ ap (λ (x : ℕ). cond (ltb x c.candidate_limit.result.value) x 0) same ∙ ap (λ (l : ℕ). cond (ltb (word_of c.args.x % 2 ^ bits u) l) (word_of c.args.x % 2 ^ bits u) 0) c.candidate_limit.ensures,
      );
    }
