-- The word has bit q where q has sent or is not below c, and q is not received. `mem-transit` reads each `!` and `&` as a test of q.
use mathlib.Core.Path.{◌∙◌}
use Rattle.senders.proofs.WordLaws.{mem-transit}
use Rattle.senders.proofs.in_transit.Goals as goal

pub returns : goal.returns
returns c = let a = c.args in
    c.has.ensures ∙ mem-transit a.c a.sent a.got a.q c.first.ensures c.requires.0 c.ranges.sent.fits c.ranges.got.fits c.requires.1
