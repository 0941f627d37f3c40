-- By the two tests, as `limit` has them.
use native.Mathlib.Omega.{arith}
use Rattle.drawing.proofs.DigitLaws.{limit-plain, limit-below, limit_above}
use Rattle.drawing.proofs.pieces.largest.Goals as goal

pub returns-then-not-signed : goal.returns-then-not-signed
returns-then-not-signed c = (search limit-plain, omega arith)

pub returns-then-negative : goal.returns-then-negative
returns-then-negative c = (search limit-below, omega arith)

pub returns : goal.returns
returns c = (search limit_above, omega arith)
