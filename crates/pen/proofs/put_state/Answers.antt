-- The state's name and its label of two bytes; 29 is the most that these have.
use native.Mathlib.Omega.{arith}
use Rattle.pen.proofs.PartLaws.{state-put}
use Rattle.pen.proofs.put_state.Goals as goal

pub returns : goal.returns
returns c = (search state-put, omega arith)
