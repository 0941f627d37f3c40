-- The loop keeps that reading the whole plan comes to reading, from here, what is left of it after j codes.
use borrow.Author.Rules.{rules}
use Rattle.drawing.proofs.PlanLaws.{plan-begins, plan-goes-on, plan-ends}
use Rattle.drawing.proofs.pieces.follow.Goals as goal

pub loop-code-init : goal.loop-code-init
loop-code-init c = search (plan-begins, rules)

pub loop-code-preserved : goal.loop-code-preserved
loop-code-preserved c = search plan-goes-on

pub returns : goal.returns
returns c = search (plan-ends, rules)
