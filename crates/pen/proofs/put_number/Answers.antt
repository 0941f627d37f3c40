-- What joins it and the number itself, one put after the other.
use native.Mathlib.Omega.{arith}
use Rattle.ink.proofs.InkLaws.{put_then}
use Rattle.pen.proofs.put_number.Goals as goal

pub returns : goal.returns
returns c = (search put_then, omega arith)
