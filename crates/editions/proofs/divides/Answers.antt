-- The loop keeps that every e before m is 1: one that is not ends it, and past the last type there is none.
use borrow.Author.Rules.{rules}
use Rattle.senders.proofs.TallyLaws.{some-none, some_more, some-found, some-never}
use Rattle.editions.proofs.divides.Goals as goal

pub loop-m-init : goal.loop-m-init
loop-m-init c = search some-none

pub returns-then-divides_at : goal.returns-then-divides_at
returns-then-divides_at c = search (some-found, rules)

pub loop-m-preserved : goal.loop-m-preserved
loop-m-preserved c = search some_more

pub returns : goal.returns
returns c = search (some-never, rules)
