-- The four tests are those of `counts_outside`, joined as there.
use borrow.Author.Rules.{rules}
use Rattle.table.specs.Refusals.{counts_outside}
use Rattle.table.proofs.counts_outside.Goals as goal

pub outside-requires : goal.outside-requires
unfolding counts_outside
outside-requires c = search rules

pub outside-requires-2 : goal.outside-requires-2
unfolding counts_outside
outside-requires-2 c = search rules

pub outside-requires-3 : goal.outside-requires-3
unfolding counts_outside
outside-requires-3 c = search rules

pub outside-requires-4 : goal.outside-requires-4
unfolding counts_outside
outside-requires-4 c = search rules

pub returns : goal.returns
unfolding counts_outside
returns c = cc
