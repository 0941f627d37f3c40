-- One code: a stuck cursor stays, a gap is skipped, a byte that is asked for is taken, and any other is where reading is stuck.
use borrow.Author.Rules.{rules}
use Rattle.drawing.proofs.PlanLaws.{item_stays, item-gap, item-taken, item_refused}
use Rattle.drawing.proofs.pieces.item.Goals as goal

pub returns-then-c : goal.returns-then-c
returns-then-c c = search (item_stays, rules)

pub returns-then-code-eq126 : goal.returns-then-code-eq126
returns-then-code-eq126 c = search item-gap

pub returns-then-asks : goal.returns-then-asks
returns-then-asks c = search item-taken

pub returns : goal.returns
returns c = search item_refused
