-- A start that is no state is refused before its flags would be looked up; any other is refused by its flag.
use Rattle.bundle.proofs.BundleLaws.{start_outside, start-inside}
use Rattle.bundle.proofs.not_initial.Goals as goal

pub returns-then-states-start : goal.returns-then-states-start
returns-then-states-start c = search start_outside

pub returns : goal.returns
returns c = search start-inside
