-- A copy of the trailer, in which the first four bytes are those of the two raised distances.
use native.Mathlib.Omega.{arith}
use lib.ListN.{length-set}
use borrow.Author.Rules.{rules}
use Rattle.replay.proofs.MadeLaws.{closed}
use Rattle.replay.proofs.close.Goals as goal

pub bounds-out-1 : goal.bounds-out-1
bounds-out-1 c = rw length-set (search rules)

pub bounds-out-2 : goal.bounds-out-2
bounds-out-2 c = rw (length-set, length-set) (search rules)

pub bounds-out-3 : goal.bounds-out-3
bounds-out-3 c = rw (length-set, length-set, length-set) (search rules)

pub returns : goal.returns
returns c = closed _ _ _ c.requires.0 c.copy.ensures c.step_distance.ensures.0 c.start_distance.ensures.0
    c.low.ensures c.high.ensures (omega (arith, c.low-2.ensures)) (omega (arith, c.high-2.ensures))
