-- By the code: one that asks for a blank, and any other, which asks for itself.
use Rattle.drawing.proofs.PlanLaws.{asked-blank, asked-byte}
use Rattle.drawing.proofs.pieces.asks.Goals as goal

pub returns-then-code-eq95 : goal.returns-then-code-eq95
returns-then-code-eq95 c = search asked-blank

pub returns : goal.returns
returns c = search asked-byte
