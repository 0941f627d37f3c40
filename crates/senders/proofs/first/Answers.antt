-- `2 ^ c - 1` has a one for each sender below c. At c = 64 the shift would wrap, and the number is written out.
use mathlib.Core.Path.{◌≡◌}
use native.Mathlib.Omega.{arith}
use lib.Pow.{pow_pos}
use Rattle.senders.proofs.WordLaws.{shl_one}
use Rattle.senders.proofs.first.Goals as goal

pub overflow_sub-result : goal.overflow_sub-result
overflow_sub-result c = rw (shl_one c.args.c c.if-c-lt-MOST_BOARDS.true) (pow_pos c.args.c)

pub returns-then-c-lt-MOST_BOARDS : goal.returns-then-c-lt-MOST_BOARDS
returns-then-c-lt-MOST_BOARDS c = rw (shl_one c.args.c c.if-c-lt-MOST_BOARDS.true)

pub returns-else-c-lt-MOST_BOARDS : goal.returns-else-c-lt-MOST_BOARDS
returns-else-c-lt-MOST_BOARDS c = let e : c.args.c ≡ 64 = omega arith in rw e
