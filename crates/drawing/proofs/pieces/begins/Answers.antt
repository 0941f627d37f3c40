-- The test of the byte is `is_digit`; the rest is literal.
use Rattle.drawing.proofs.pieces.begins.Goals as goal

pub returns : goal.returns
returns c = rw c.is_digit.ensures
