-- What joins the number to the one before, and the number itself; its byte is put at n.
use Rattle.drawing.proofs.LabelLaws.{numbered}
use Rattle.drawing.proofs.pieces.number_at.Goals as goal

pub returns : goal.returns
returns c = (search numbered, cc)
