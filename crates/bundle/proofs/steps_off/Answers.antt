-- The three tests are those of `steps_off`.
use borrow.Author.Rules.{rules}
use Rattle.bundle.specs.Refusals.{steps_off}
use Rattle.bundle.proofs.steps_off.Goals as goal

pub step_distance-d-requires : goal.step_distance-d-requires
unfolding steps_off
step_distance-d-requires c = search rules

pub start_distance-requires : goal.start_distance-requires
unfolding steps_off
start_distance-requires c = search rules

pub correct-requires : goal.correct-requires
unfolding steps_off
correct-requires c = search rules

pub overflow_add-result : goal.overflow_add-result
unfolding steps_off
overflow_add-result c = search rules

pub returns : goal.returns
unfolding steps_off
returns c = cc
