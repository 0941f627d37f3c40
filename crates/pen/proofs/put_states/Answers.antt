-- The loop keeps that the lines of the states still left, put from here on, come to all lines from n on.
use native.Mathlib.Omega.{arith}
use Rattle.pen.proofs.PartLaws.{states-turn, states-end}
use Rattle.pen.proofs.put_states.Goals as goal

pub loop-i-preserved : goal.loop-i-preserved
loop-i-preserved c = (omega arith, search states-turn)

pub returns : goal.returns
returns c = (search states-end, omega arith)
