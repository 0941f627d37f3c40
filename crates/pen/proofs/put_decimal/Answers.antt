-- By the number of digits: one, two or three, put from the first to the last.
use native.Mathlib.Omega.{arith}
use Rattle.pen.proofs.NumberLaws.{put-one-digit, put-two-digits, put-three-digits}
use Rattle.pen.proofs.put_decimal.Goals as goal

pub returns-then-v-lt10 : goal.returns-then-v-lt10
returns-then-v-lt10 c = (search put-one-digit, omega arith)

pub returns-then-v-lt100 : goal.returns-then-v-lt100
returns-then-v-lt100 c = (search put-two-digits, omega arith)

pub returns : goal.returns
returns c = (search put-three-digits, omega arith)
