-- The kept row is as many words as a board's cells have, so that the sum is the definition's; the bounds keep it small.
use native.Mathlib.Omega.{arith}
use Rattle.words.proofs.PlaceLaws.{rows_few, rows_are}
use Rattle.paper.specs.Words.{sent_at}
use Rattle.words.proofs.sent_at.Goals as goal

pub overflow_mul-result : goal.overflow_mul-result
unfolding sent_at
overflow_mul-result c = omega (arith, rows_few c.args.s c.requires.0)

pub overflow_add-result : goal.overflow_add-result
unfolding sent_at
overflow_add-result c = omega (arith, rows_few c.args.s c.requires.0, c.requires.0.boards)

pub overflow_add-result-2 : goal.overflow_add-result-2
unfolding sent_at
overflow_add-result-2 c = omega (arith, rows_few c.args.s c.requires.0, c.requires.0.boards)

pub returns : goal.returns
unfolding sent_at
returns c = (rw (rows_are c.args.s c.requires.0), omega (arith, rows_few c.args.s c.requires.0, c.requires.0.boards))
