use Rattle.std.proofs.Common.{◌≡◌, ℕ, Bool, List, Ok, Err, Result, sym, refl, ap, ◌∙◌}
use Rattle.params.specs.Params.{Params}
use Rattle.record.specs.Layout.{Content, decode}
use Rattle.record.specs.declared.view.Record.{Record}
use Rattle.refusal.specs.declared.Refusal.TheVariants.{OtherChallenge, Stale}
use Rattle.refusal.specs.declared.Refusal.{Refusal}
use Rattle.std.proofs.lemmas.Result.{err_from_is_err_and}
use Rattle.std.specs.Str.{bytes_eq}
use Rattle.till.proofs.Accepting.{accepts-ok, challenge-refused, content_is, counter-refused, key-refused, length-c_part, length-z-part, ok-accepts, payment_is, record-refused, refused, taken, unchanged}
use Rattle.till.proofs.Till.check.Goals as goal
use Rattle.till.specs.Verdict.{above}
use Rattle.till.specs.Verification.{answering, content, expected}
use Rattle.till.specs.declared.payment.Payment.{Payment}

pub returns-in_err-check_key : goal.returns-in_err-check_key
returns-in_err-check_key g c =
    let s = g.S.ParamSet.params in
    let sound = g.S.ParamSet.sound in
    let key = c.args.self.now.key.now in
    let last = c.args.self.now.last in
    let bytes = c.args.bytes.now in
    let r = c.from_residual.result in
    let p = err_from_is_err_and r c.from_residual.ensures.1 in
    let is = p.1 ∙ ap Err p.2 in
    let answer = refused s sound key last bytes r _ is (key-refused s sound key last bytes _ c.in_err-check_key.ensures) in
    record { answer = answer; last = unchanged s sound key last bytes r _ is; key = refl; accepts = ok-accepts s sound key last bytes r answer; accepted = accepts-ok s sound key last bytes r answer }

pub returns-in_err-record : goal.returns-in_err-record
returns-in_err-record g c =
    let s = g.S.ParamSet.params in
    let sound = g.S.ParamSet.sound in
    let key = c.args.self.now.key.now in
    let last = c.args.self.now.last in
    let bytes = c.args.bytes.now in
    let opens = c.in_ok-check_key.ensures in
    let r = c.from_residual-in_err-record.result in
    let p = err_from_is_err_and r c.from_residual-in_err-record.ensures.1 in
    let is = p.1 ∙ ap Err p.2 in
    let answer = refused s sound key last bytes r _ is (record-refused s sound key last bytes opens.0 opens.1 _ c.in_err-record.ensures) in
    record { answer = answer; last = unchanged s sound key last bytes r _ is; key = refl; accepts = ok-accepts s sound key last bytes r answer; accepted = accepts-ok s sound key last bytes r answer }

pub answers-requires : goal.answers-requires
answers-requires g c =
    let s = g.S.ParamSet.params in
    let sound = g.S.ParamSet.sound in
    let bytes = c.args.bytes.now in
    let parts = c.in_ok-record.ensures in
    record {
      key = c.in_ok-check_key.ensures.2;
      z = length-z-part s sound bytes parts.0 _ parts.3;
      challenge = length-c_part s sound bytes parts.0 _ parts.4;
    }

-- whether the challenge is the one that is called for, of the bytes
told : (s : Params) (key bytes : List ℕ) (rec : Record) (b : Bool) → content s rec ≡ decode s bytes → b ≡ answering s key rec → bytes_eq (expected s key (decode s bytes)) (decode s bytes).c ≡ b
told s key bytes rec b e h = sym (ap (λ (x : Content). bytes_eq (expected s key x) x.c) e) ∙ sym h

pub returns-then-not-answers : goal.returns-then-not-answers
returns-then-not-answers g c =
    let s = g.S.ParamSet.params in
    let sound = g.S.ParamSet.sound in
    let key = c.args.self.now.key.now in
    let last = c.args.self.now.last in
    let bytes = c.args.bytes.now in
    let opens = c.in_ok-check_key.ensures in
    let parts = c.in_ok-record.ensures in
    let says = content_is s bytes c.in_ok-record.record parts.1 parts.2 parts.3 parts.4 in
    let other = told s key bytes c.in_ok-record.record _ says c.answers.ensures ∙ c.if-not-answers.true in
    let r : Result Payment Refusal = Err OtherChallenge in
    let answer = refused s sound key last bytes r OtherChallenge refl (challenge-refused s sound key last bytes opens.0 opens.1 parts.0 other) in
    record { answer = answer; last = refl; key = refl; accepts = ok-accepts s sound key last bytes r answer; accepted = accepts-ok s sound key last bytes r answer }

pub returns-then-not-above : goal.returns-then-not-above
returns-then-not-above g c =
    let s = g.S.ParamSet.params in
    let sound = g.S.ParamSet.sound in
    let key = c.args.self.now.key.now in
    let last = c.args.self.now.last in
    let bytes = c.args.bytes.now in
    let opens = c.in_ok-check_key.ensures in
    let parts = c.in_ok-record.ensures in
    let says = content_is s bytes c.in_ok-record.record parts.1 parts.2 parts.3 parts.4 in
    let same = told s key bytes c.in_ok-record.record _ says c.answers.ensures ∙ c.if-not-answers.false in
    let stale = ap (above last) (sym parts.1) ∙ sym c.above.ensures ∙ c.if-not-above.true in
    let r : Result Payment Refusal = Err Stale in
    let answer = refused s sound key last bytes r Stale refl (counter-refused s sound key last bytes opens.0 opens.1 parts.0 same stale) in
    record { answer = answer; last = refl; key = refl; accepts = ok-accepts s sound key last bytes r answer; accepted = accepts-ok s sound key last bytes r answer }

pub returns : goal.returns
returns g c =
    let s = g.S.ParamSet.params in
    let sound = g.S.ParamSet.sound in
    let key = c.args.self.now.key.now in
    let last = c.args.self.now.last in
    let bytes = c.args.bytes.now in
    let opens = c.in_ok-check_key.ensures in
    let parts = c.in_ok-record.ensures in
    let says = content_is s bytes c.in_ok-record.record parts.1 parts.2 parts.3 parts.4 in
    let same = told s key bytes c.in_ok-record.record _ says c.answers.ensures ∙ c.if-not-answers.false in
    let fresh = ap (above last) (sym parts.1) ∙ sym c.above.ensures ∙ c.if-not-above.false in
    let p : Payment = record { counter = c.in_ok-record.record.counter; digest = c.in_ok-record.record.digest.now } in
    let paid = payment_is s bytes p parts.1 parts.2 in
    let r : Result Payment Refusal = Ok p in
    let answer = taken s sound key last bytes opens.0 opens.1 parts.0 same fresh p paid in
    record { answer = answer; last = refl; key = refl; accepts = ok-accepts s sound key last bytes r answer; accepted = accepts-ok s sound key last bytes r answer }
