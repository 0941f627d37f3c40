-- A type has at least three bytes; they are read in their order.
use native.Mathlib.Omega.{arith}
use borrow.Author.Rules.{rules}
use Rattle.layout.specs.Layout.{weights_at}
use Rattle.layout.proofs.LayoutLaws.{type-bytes-few}
use Rattle.layout.proofs.weights_at.Goals as goal

pub bounds-rule-at : goal.bounds-rule-at
unfolding weights_at
bounds-rule-at c = omega (arith, type-bytes-few c.args.byte)

pub overflow_add-result : goal.overflow_add-result
unfolding weights_at
overflow_add-result c = search rules

pub bounds-rule-at-2 : goal.bounds-rule-at-2
unfolding weights_at
bounds-rule-at-2 c = omega (arith, type-bytes-few c.args.byte)

pub overflow_add-result-2 : goal.overflow_add-result-2
unfolding weights_at
overflow_add-result-2 c = search rules

pub bounds-rule-at-3 : goal.bounds-rule-at-3
unfolding weights_at
bounds-rule-at-3 c = omega (arith, type-bytes-few c.args.byte)

pub divisor-requires : goal.divisor-requires
unfolding weights_at
divisor-requires c = search rules

pub returns : goal.returns
unfolding weights_at
returns c = cc
