-- Head, states, rules and the last line, one put after the other, are the drawing; their bounds add up to `most_drawing`.
use native.Mathlib.Omega.{arith}
use Rattle.pen.proofs.PartLaws.{drawing-put, put_whole}
use Rattle.pen.proofs.write.Goals as goal

pub returns : goal.returns
returns c = put_whole (search drawing-put) (omega arith)
