-- A divisor is outside exactly if the test over all types says yes.
use mathlib.Core.Path.{refl, ap, ◌∙◌}
use borrow.Author.Rules.{rules}
use Rattle.senders.specs.Tally.{some}
use Rattle.senders.proofs.RangeLaws.{any_some}
use Rattle.layout.specs.Layout.{divisor_outside}
use Rattle.layout.proofs.divisor_outside.Goals as goal

pub returns : goal.returns
returns c = let a = c.args in let P = divisor_outside a.byte a.rule.now in
    any_some c.types_in.result P _ _ c.any.result refl c.any.ensures.ran (λ x b q k. search rules) ∙ ap (λ n. some n P) c.types_in.ensures.0
