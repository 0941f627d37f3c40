-- It is the translation to the usual form, which is how the definition has it.
use mathlib.Core.Path.{ap, ◌∙◌}
use Prim.Native.Nat.{ℕ}
use lib.ListN.{length}
use Rattle.translate.specs.Entry.{translate_to_answer, translate_to_bytes}
use Rattle.translate.proofs.translate.Goals as goal

pub returns : goal.returns
returns c = let a = c.args in
    let e = c.usual_form.ensures in record { value = c.translate_to.ensures.value ∙ ap (λ (k : ℕ). translate_to_answer a.bundle.now a.standing.now k (length a.out.now)) e; out_after = c.translate_to.ensures.out_after ∙ ap (λ (k : ℕ). translate_to_bytes a.bundle.now a.standing.now k a.out.now) e }
