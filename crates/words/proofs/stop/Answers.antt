-- The word at its place takes the board, as the definition's does.
use Rattle.paper.specs.Words.{stop, stopped}
use Rattle.words.proofs.stop.Goals as goal

pub returns : goal.returns
unfolding stop stopped
returns c = rw (c.with.ensures, c.stopped_at-i.ensures.0)
