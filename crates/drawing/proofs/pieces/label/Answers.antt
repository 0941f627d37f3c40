-- What opens the label, its numbers and what closes the line: three pieces of plan, read one after the other.
use Rattle.drawing.proofs.LabelLaws.{label-read}
use Rattle.drawing.proofs.pieces.label.Goals as goal

pub returns : goal.returns
returns c = search label-read
