-- The word and the number, one put after the other.
use native.Mathlib.Omega.{arith}
use Rattle.ink.proofs.InkLaws.{put_then}
use Rattle.pen.proofs.put_numbered.Goals as goal

pub returns : goal.returns
returns c = (search put_then, omega arith)
