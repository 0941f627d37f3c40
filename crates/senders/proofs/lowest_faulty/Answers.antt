-- The senders from c on are a set by themselves, so the faulty ones that are not in the set are those that it misses.
use Rattle.senders.proofs.WordLaws.{lowest-faulty}
use Rattle.senders.proofs.lowest_faulty.Goals as goal

pub returns : goal.returns
returns c = let a = c.args in (lowest-faulty a.c a.n c.first.ensures a.set c.requires.0 c.requires.1 c.lowest_missing.ensures.0, c.lowest_missing.ensures.1)
