-- The number and the kept state are compared as they stand.
use native.Mathlib.Omega.{arith}
use Rattle.step.proofs.other_than.Goals as goal

pub returns : goal.returns
returns c = (rw c.from.ensures.0, omega (arith, c.from.ensures.0, c.from.ensures.1))
