-- What the words of a cell may be at most holds of the two that are read.
use Rattle.words.specs.Facts.{in_step}
use Rattle.words.proofs.count.Goals as goal

pub card-requires-clause-small : goal.card-requires-clause-small
card-requires-clause-small c = c.cell_in.ensures.small in_step c.requires.2
