-- The loop keeps that the number so far, before what is left, comes to the same.
use Rattle.decimal.proofs.DigitLaws.{Growing}
use Rattle.decimal.proofs.rest.Given as goal

abbrev pub invariant-loop-j : goal.invariant-loop-j
invariant-loop-j l = Growing l.text l.i l.v l.most l.j l.w
