-- What the record says of type m has a divisor; its least count is the threshold's.
use mathlib.Core.Path.{ap, ◌∙◌}
use Prim.Native.Nat.{◌+◌}
use borrow.Author.Rules.{rules}
use Rattle.threshold.specs.declared.Weights.{Weights}
use Rattle.threshold.specs.Threshold.{threshold_of, least_of}
use Rattle.rules.proofs.RuleLaws.{type-below, some_divisor}
use Rattle.rules.proofs.least_in.Goals as goal

pub weights-requires : goal.weights-requires
weights-requires c = let R = c.requires.3 in
    (R.small, search type-below, R.long)

pub least-requires : goal.least-requires
least-requires c = (search some_divisor, search rules, search rules)

pub returns : goal.returns
returns c = let a = c.args in
    c.least.ensures ∙ ap (λ (x : Weights). least_of (threshold_of x (a.s.correct + a.s.faulty) a.t)) c.weights.ensures
