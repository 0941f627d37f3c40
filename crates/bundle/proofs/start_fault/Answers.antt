-- 14 where the start byte is no initial state and 0 else, as in `start_fault`.
use Rattle.bundle.proofs.BundleLaws.{start-wrong, start_right}
use Rattle.bundle.proofs.start_fault.Goals as goal

pub returns-then-not_initial : goal.returns-then-not_initial
returns-then-not_initial c = search start-wrong

pub returns-else-not_initial : goal.returns-else-not_initial
returns-else-not_initial c = search start_right
