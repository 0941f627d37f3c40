-- The head's tokens with the two numbers between them, as `head_text` writes them.
use native.Mathlib.Omega.{arith}
use Rattle.pen.proofs.PartLaws.{head_put}
use Rattle.pen.proofs.put_head.Goals as goal

pub returns : goal.returns
returns c = (search head_put, omega arith)
