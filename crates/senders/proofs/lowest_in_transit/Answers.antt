-- One set holds all that can be on the way: the faulty senders, and of the correct ones those that have sent. The least that is missing from what was received is the answer.
use Rattle.senders.proofs.WordLaws.{lowest-transit}
use Rattle.senders.proofs.lowest_in_transit.Goals as goal

pub returns : goal.returns
returns c = let a = c.args in
    (lowest-transit a.c a.n c.first.ensures a.sent a.got c.requires.0 c.requires.1 c.ranges.sent.fits c.lowest_missing.ensures.0, c.lowest_missing.ensures.1)
