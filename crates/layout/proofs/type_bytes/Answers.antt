-- Each branch is one of `type_bytes`.
use borrow.Author.Rules.{rules}
use Rattle.fault.proofs.FaultLaws.{if_yes, if_no}
use Rattle.layout.specs.Layout.{type_bytes}
use Rattle.layout.proofs.type_bytes.Goals as goal

pub second-requires : goal.second-requires
unfolding type_bytes
second-requires c = search rules

pub returns-then-second : goal.returns-then-second
unfolding type_bytes
returns-then-second c = (search (if_yes, rules), search rules, search rules)

pub returns-else-second : goal.returns-else-second
unfolding type_bytes
returns-else-second c = (search (if_no, rules), search rules, search rules)
