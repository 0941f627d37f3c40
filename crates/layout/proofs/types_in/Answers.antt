-- Each branch is one of `types_in`.
use borrow.Author.Rules.{rules}
use Rattle.fault.proofs.FaultLaws.{if_yes, if_no}
use Rattle.layout.specs.Layout.{types_in}
use Rattle.layout.proofs.LayoutLaws.{second-at-least}
use Rattle.layout.proofs.types_in.Goals as goal

pub second-requires : goal.second-requires
unfolding types_in
second-requires c = search rules

pub overflow_sub-result : goal.overflow_sub-result
unfolding types_in
overflow_sub-result c = search second-at-least

pub returns-then-second : goal.returns-then-second
unfolding types_in
returns-then-second c = (search (if_yes, rules), search rules)

pub returns-else-second : goal.returns-else-second
unfolding types_in
returns-else-second c = (search (if_no, rules), search rules)
