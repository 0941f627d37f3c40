-- After the bracket only blanks may follow: a byte that is none is where no drawing goes on, and else the text is at its end.
use borrow.Author.Rules.{rules}
use Rattle.drawing.proofs.LineLaws.{closed_stuck, closed-ended}
use Rattle.drawing.proofs.lines.end.Goals as goal

pub returns-then-at-text : goal.returns-then-at-text
returns-then-at-text c = closed_stuck c.skip-at.ensures c.if-at-text.true c.no_drawing.ensures

pub returns : goal.returns
returns c = search (closed-ended, rules)
