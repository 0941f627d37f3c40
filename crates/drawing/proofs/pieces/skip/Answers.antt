-- The loop keeps that reading a gap from i comes to reading it from j. It ends at a byte that is no blank, or at the text's end.
use borrow.Author.Rules.{rules}
use Rattle.drawing.proofs.FromLaws.{gap-begins, gap-goes-on, gap-stops, gap_ends}
use Rattle.drawing.proofs.pieces.skip.Goals as goal

pub loop-j-init : goal.loop-j-init
loop-j-init c = search (gap-begins, rules)

pub returns-then-not-is_blank : goal.returns-then-not-is_blank
returns-then-not-is_blank c = search gap-stops

pub loop-j-preserved : goal.loop-j-preserved
loop-j-preserved c = search gap-goes-on

pub returns : goal.returns
returns c = search gap_ends
