-- The loop keeps that reading a gap from i comes to reading it from j. It ends at a byte that is no blank, or at the text's end.
use Rattle.drawing.proofs.FromLaws.{Passing}
use Rattle.drawing.proofs.pieces.skip.Given as goal

abbrev pub invariant-loop-j : goal.invariant-loop-j
invariant-loop-j l = Passing l.text l.i l.j
