-- The loop keeps that reading the whole plan comes to reading, from here, what is left of it after j codes.
use Rattle.drawing.proofs.PlanLaws.{Going}
use Rattle.drawing.proofs.pieces.follow.Given as goal

abbrev pub invariant-loop-code : goal.invariant-loop-code
invariant-loop-code l = Going l.text l.initial.d l.plan l.code-index l.d
