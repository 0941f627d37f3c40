-- The kept row and width make the sum the definition's; a board and a type that there are keep the cell inside the words.
use native.Mathlib.Omega.{arith}
use Rattle.words.proofs.PlaceLaws.{row-at-few, cell-few, cell-is, cell-inside}
use Rattle.words.proofs.cell_at.Goals as goal

pub overflow_mul-result : goal.overflow_mul-result
overflow_mul-result c = omega (arith, row-at-few c.args.s c.requires.0 c.requires.1)

pub overflow_add-result : goal.overflow_add-result
overflow_add-result c = omega (arith, row-at-few c.args.s c.requires.0 c.requires.1, c.requires.0.boards)

pub overflow_mul-result-2 : goal.overflow_mul-result-2
overflow_mul-result-2 c = omega (arith, cell-few c.args.s c.requires.0 c.requires.1)

pub overflow_add-result-2 : goal.overflow_add-result-2
overflow_add-result-2 c = omega (arith, row-at-few c.args.s c.requires.0 c.requires.1, cell-few c.args.s c.requires.0 c.requires.1, c.requires.0.boards)

pub returns : goal.returns
returns c = (cell-is c.args.s c.requires.0 c.requires.1, cell-inside c.args.s c.requires.0 c.requires.1, omega (arith, row-at-few c.args.s c.requires.0 c.requires.1, cell-few c.args.s c.requires.0 c.requires.1, c.requires.0.boards))
