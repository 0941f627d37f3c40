-- The distance is at most 65,535, so the sum doesn't wrap; the test is then the definition.
use borrow.Author.Rules.{rules}
use Rattle.bundle.specs.Refusals.{out_of_bundle}
use Rattle.bundle.proofs.out_of_bundle.Goals as goal

pub start_distance-requires : goal.start_distance-requires
unfolding out_of_bundle
start_distance-requires c = search rules

pub overflow_add-result : goal.overflow_add-result
unfolding out_of_bundle
overflow_add-result c = search rules

pub returns : goal.returns
unfolding out_of_bundle
returns c = cc
