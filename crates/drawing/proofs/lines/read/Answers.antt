-- The loop keeps that the reader stands at a line or at the end. Each line takes at least a byte or ends the reading, so `ahead` falls.
use borrow.Author.Tests.{not-false}
use Rattle.drawing.proofs.LineLaws.{lines-begin, lines_end}
use Rattle.drawing.proofs.lines.read.Goals as goal

pub loop-g-init : goal.loop-g-init
loop-g-init c = lines-begin _ c.in_ok-g.ensures

pub returns : goal.returns
returns c = (lines_end c.loop-g.invariant (not-false _ c.loop-g-test.false), c.loop-g.auto.out)
