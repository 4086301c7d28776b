-- A refusal that a `?` passes on: what is not understood there is not understood here.
use Rattle.std.proofs.Common.{◌≡◌, Err, Result, subst, sym, ap, ◌∙◌}
use Rattle.script.specs.Answers.{Judges, Reads}
use Rattle.script.specs.declared.unread.Unread.{Unread}
use Rattle.script.specs.declared.unread.Unread.TheVariants.{NotUnderstood, Memory}

-- a refusal, whatever was to be read
abbrev pub Judged : Type 0 → Unread → Type 0
Judged Q e = Judges {A = Unit {0}} (λ _. Unit {0}) Q (Err e)

abbrev pub Refused : Type 0 → Unread → Type 0
Refused Q e = Reads {A = Unit {0}} (λ _. Unit {0}) Q (Err e)

judged_so : (Q Q' : Type 0) (e : Unread) → (Q → Q') → Judged Q e → Judged Q' e
judged_so Q Q' NotUnderstood f h = f h
judged_so Q Q' Memory f h = absurd h

refused_so : (Q Q' : Type 0) (e : Unread) → (Q → Q') → Refused Q e → Refused Q' e
refused_so Q Q' NotUnderstood f h = f h
refused_so Q Q' Memory f h = tt

judged_refused : (Q : Type 0) (e : Unread) → Judged Q e → Refused Q e
judged_refused Q NotUnderstood h = h
judged_refused Q Memory h = absurd h

module _ {A : Type 0} (P : A → Type 0) (Q Q' : Type 0) (e : Unread) (r : Result A Unread) (is : (e' : Unread) × (r ≡ Err e') × (e' ≡ e)) (f : Q → Q') where
  same : r ≡ Err e
  same = is.1 ∙ ap (λ x. Err x) is.2

  pub judged : Judged Q e → Judges P Q' r
  judged h = subst (Judges P Q') (sym same) (judged_so Q Q' e f h)

  pub refused : Refused Q e → Reads P Q' r
  refused h = subst (Reads P Q') (sym same) (refused_so Q Q' e f h)

  -- where more is made here
  pub refused_judged : Judged Q e → Reads P Q' r
  refused_judged h = subst (Reads P Q') (sym same) (refused_so Q Q' e f (judged_refused Q e h))
