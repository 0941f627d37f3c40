-- The table's test, at the number of types that the byte says.
use Rattle.drawing.proofs.counts_outside.Goals as goal

pub returns : goal.returns
returns c = cc
