-- What is cut after the start bytes, as long as the trailer says, is `steps_of`; it ends where the trailer begins.
use Rattle.bundle.proofs.BundleLaws.{steps_are}
use Rattle.bundle.proofs.steps.Goals as goal

pub returns : goal.returns
returns c = search steps_are
