-- The run's words are summed where they are.
use mathlib.Core.Path.{ap, ◌∙◌}
use Rattle.counted.specs.declared.Counted.{Counted}
use Rattle.counted.proofs.count_in.Goals as goal

pub returns : goal.returns
returns c = record { by_design = λ d K. ap (λ (r : Counted). r.answer) c.told.ensures ∙ c.ran-answer.ensures ∙ c.run_in.ensures.by_design d K; by_design_2 = c.run_in.ensures.by_design_2; receipts_value = (ap (λ (r : Counted). r.receipts) c.told.ensures ∙ c.received.ensures, ap (λ (r : Counted). r.sends) c.told.ensures ∙ c.sent.ensures) }
