-- Each number is read from its trailer; the words of a cell and of a board's cells follow from them.
use Rattle.engine.proofs.sizes_of.Goals as goal

pub returns : goal.returns
returns c = cc
