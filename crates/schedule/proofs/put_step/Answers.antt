-- Where the record fits, four writes inside of the bytes, none of which changes how many they are; else nothing.
use mathlib.Core.Path.{sym}
use native.Mathlib.Omega.{arith}
use lib.ListN.{length-set}
use Rattle.schedule.proofs.RecordLaws.{put-fits, put-not}
use Rattle.schedule.proofs.put_step.Goals as goal

pub bounds-steps-at-then-at-steps : goal.bounds-steps-at-then-at-steps
bounds-steps-at-then-at-steps c = rw length-set (omega (arith, c.if-at-steps.true))

pub bounds-steps-at-then-at-steps-2 : goal.bounds-steps-at-then-at-steps-2
bounds-steps-at-then-at-steps-2 c = rw (length-set, length-set) (omega (arith, c.if-at-steps.true))

pub bounds-steps-at-then-at-steps-3 : goal.bounds-steps-at-then-at-steps-3
bounds-steps-at-then-at-steps-3 c = rw (length-set, length-set, length-set) (omega (arith, c.if-at-steps.true))

pub returns-then-at-steps : goal.returns-then-at-steps
returns-then-at-steps c = sym (put-fits _ _ _ c.if-at-steps.true)

pub returns-else-at-steps : goal.returns-else-at-steps
returns-else-at-steps c = sym (put-not _ _ _ c.if-at-steps.false)
