-- The tests are those of `not_empty`.
use borrow.Author.Rules.{rules}
use Rattle.replay.specs.Entry.{not_empty}
use Rattle.replay.proofs.not_empty.Goals as goal

pub step_distance-requires : goal.step_distance-requires
unfolding not_empty
step_distance-requires c = search rules

pub form-requires : goal.form-requires
unfolding not_empty
form-requires c = search rules

pub returns : goal.returns
unfolding not_empty
returns c = cc
