-- The loop keeps that the reader stands at a line or at the end. Each line takes at least a byte or ends the reading, so `ahead` falls.
use Rattle.drawing.proofs.LineLaws.{AtLine, ahead}
use Rattle.drawing.proofs.lines.read.Given as goal

abbrev pub invariant-loop-g : goal.invariant-loop-g
invariant-loop-g l = AtLine l.text l.g l.out

abbrev pub decreases-loop-g : goal.decreases-loop-g
decreases-loop-g l = ahead l.text l.g
