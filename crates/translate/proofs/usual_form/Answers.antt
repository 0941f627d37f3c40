-- Form 1 goes to 0 and every other to 1; bytes too few for a trailer count as another.
use mathlib.Core.Path.{refl, sym, ◌∙◌}
use borrow.Author.Tests.{eq-eqb, ne_eqb}
use Rattle.fault.proofs.FaultLaws.{if_yes, if_no}
use Rattle.translate.specs.Entry.{usual}
use Rattle.translate.proofs.EntryLaws.{no_form}
use Rattle.translate.proofs.usual_form.Goals as goal

pub returns-then-bundle-lt-TRAILER_BYTES : goal.returns-then-bundle-lt-TRAILER_BYTES
unfolding usual
returns-then-bundle-lt-TRAILER_BYTES c = if_no _ refl (no_form c.args.bundle.now c.if-bundle-lt-TRAILER_BYTES.true) refl

pub returns-then-form-eq1 : goal.returns-then-form-eq1
unfolding usual
returns-then-form-eq1 c = if_yes _ refl refl (eq-eqb _ 1 (sym c.form.ensures.0 ∙ c.if-form-eq1.true))

pub returns-else-form-eq1 : goal.returns-else-form-eq1
unfolding usual
returns-else-form-eq1 c = if_no _ refl (ne_eqb _ 1 (λ z. c.if-form-eq1.false (c.form.ensures.0 ∙ z))) refl
