-- Some type was sent before the rule and is not after it: the count from `from` to `to` is over 0.
use borrow.Author.Rules.{rules}
use Rattle.table.specs.Refusals.{forgets}
use Rattle.table.proofs.forgets.Goals as goal

pub from-requires : goal.from-requires
unfolding forgets
from-requires c = search rules

pub to-requires : goal.to-requires
unfolding forgets
to-requires c = search rules

pub unsent-requires : goal.unsent-requires
unfolding forgets
unsent-requires c = search rules

pub returns : goal.returns
unfolding forgets
returns c = cc
