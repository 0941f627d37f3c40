-- The tests are those of the definition, without a branch.
use Rattle.step.proofs.malformed.Goals as goal

pub returns : goal.returns
returns c = cc
