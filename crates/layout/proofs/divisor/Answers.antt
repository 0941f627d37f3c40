-- Each branch is one of `divisor_at`; in the second edition a type has four bytes, so the fourth is there.
use borrow.Author.Rules.{rules}
use Rattle.fault.proofs.FaultLaws.{if_yes, if_no}
use Rattle.layout.specs.Layout.{divisor_at}
use Rattle.layout.proofs.LayoutLaws.{divisor-inside}
use Rattle.layout.proofs.divisor.Goals as goal

pub second-requires : goal.second-requires
unfolding divisor_at
second-requires c = search rules

pub overflow_add-result : goal.overflow_add-result
unfolding divisor_at
overflow_add-result c = search rules

pub bounds-rule-at : goal.bounds-rule-at
unfolding divisor_at
bounds-rule-at c = search divisor-inside

pub returns-then-second : goal.returns-then-second
unfolding divisor_at
returns-then-second c = search (if_yes, rules)

pub returns-else-second : goal.returns-else-second
unfolding divisor_at
returns-else-second c = search (if_no, rules)
