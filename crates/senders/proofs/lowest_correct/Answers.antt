-- The mask of the senders below c turns "missing and below c" into "missing", whose least `lowest_missing` gives.
use Rattle.senders.proofs.WordLaws.{lowest-correct}
use Rattle.senders.proofs.lowest_correct.Goals as goal

pub returns : goal.returns
returns c = let a = c.args in (lowest-correct a.c a.n c.first.ensures a.set a.other c.lowest_missing.ensures.0, c.lowest_missing.ensures.1)
