-- The zeros at the end of `set & !other` count up to its lowest member. Where that is not below c, none below c is missing.
use native.Mathlib.Omega.{arith}
use Rattle.senders.proofs.WordLaws.{lowest_within}
use Rattle.senders.proofs.lowest_missing.Goals as goal

pub returns : goal.returns
returns c = let a = c.args in (lowest_within a.set a.other a.c c.requires c.ranges.other.fits c.from.ensures c.min.ensures, omega (arith, c.min.ensures))
