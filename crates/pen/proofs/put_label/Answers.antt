-- What opens the label, its numbers, what closes it: three puts, whose sum is `labelled`.
use native.Mathlib.Omega.{arith}
use Rattle.pen.proofs.PartLaws.{label-put}
use Rattle.pen.proofs.put_label.Goals as goal

pub returns : goal.returns
returns c = (search label-put, omega arith)
