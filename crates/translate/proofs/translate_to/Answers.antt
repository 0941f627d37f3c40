-- The answer is that of the result.
use mathlib.Core.Path.{◌∙◌}
use Rattle.translate.proofs.translate_to.Goals as goal

pub returns : goal.returns
returns c = record { value = c.from.ensures ∙ c.translated.ensures.value; out_after = c.translated.ensures.out_after }
