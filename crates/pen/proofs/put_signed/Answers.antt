-- Below 128 the byte is its own number; from there on it is a minus and 256 less the byte.
use native.Mathlib.Omega.{arith}
use Rattle.pen.proofs.NumberLaws.{signed-plain, signed-minus}
use Rattle.pen.proofs.put_signed.Goals as goal

pub returns-then-b-lt128 : goal.returns-then-b-lt128
returns-then-b-lt128 c = (search signed-plain, omega arith)

pub returns : goal.returns
returns c = (search signed-minus, omega arith)
