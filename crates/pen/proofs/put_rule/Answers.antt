-- The two names and the label of all weights, one put after the other.
use native.Mathlib.Omega.{arith}
use Rattle.pen.proofs.PartLaws.{rule-put}
use Rattle.pen.proofs.put_rule.Goals as goal

pub returns : goal.returns
returns c = (search rule-put, omega arith)
