-- The counts that are tested are those that the trailer has.
use borrow.Author.Rules.{rules}
use Rattle.table.specs.Refusals.{counts_off}
use Rattle.table.proofs.counts_off.Goals as goal

pub states-requires : goal.states-requires
unfolding counts_off
states-requires c = search rules

pub rules-requires : goal.rules-requires
unfolding counts_off
rules-requires c = search rules

pub types-requires : goal.types-requires
unfolding counts_off
types-requires c = search rules

pub factor-requires : goal.factor-requires
unfolding counts_off
factor-requires c = search rules

pub counts_outside-requires : goal.counts_outside-requires
unfolding counts_off
counts_outside-requires c = search rules

pub returns : goal.returns
unfolding counts_off
returns c = cc
