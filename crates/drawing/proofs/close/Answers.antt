-- The trailer goes where the records end; that is far below the last place.
use Rattle.drawing.proofs.close.Goals as goal

pub returns : goal.returns
returns c = c.put.ensures.bytes
