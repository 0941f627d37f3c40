-- By the sign. A number below 0 is at least 1 in size, so its byte is below 256.
use native.Mathlib.Omega.{arith}
use borrow.Author.Rules.{rules}
use Rattle.drawing.proofs.pieces.byte_of.Goals as goal

pub returns-then-negative : goal.returns-then-negative
returns-then-negative c = (rw c.if-negative.true, let p = c.requires.1 c.if-negative.true in omega (arith, p))

pub returns : goal.returns
returns c = (rw c.if-negative.false, search rules)
