-- More than one type is sent after the rule and was not before it: the count from `to` to `from` is over 1.
use borrow.Author.Rules.{rules}
use Rattle.table.specs.Refusals.{sends_two}
use Rattle.table.proofs.sends_two.Goals as goal

pub to-requires : goal.to-requires
unfolding sends_two
to-requires c = search rules

pub from-requires : goal.from-requires
unfolding sends_two
from-requires c = search rules

pub unsent-requires : goal.unsent-requires
unfolding sends_two
unsent-requires c = search rules

pub returns : goal.returns
unfolding sends_two
returns c = cc
