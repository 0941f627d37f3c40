-- A stuck cursor stays. A minus counts as one only where a number may have it; after it, or without it, the digits are read.
use borrow.Author.Rules.{rules}
use Rattle.drawing.proofs.DigitLaws.{sign_there, sign_none, number_stays, number-minus, number-plain}
use Rattle.drawing.proofs.pieces.number.Goals as goal

pub returns-then-c : goal.returns-then-c
returns-then-c c = search number_stays

pub digits-requires : goal.digits-requires
digits-requires c = sign_there _ _ c.peek.ensures.0 c.if-signed-peek.true

pub returns-then-signed-peek : goal.returns-then-signed-peek
returns-then-signed-peek c = search number-minus

pub digits-requires-2 : goal.digits-requires-2
digits-requires-2 c = (search rules, search sign_none)

pub returns : goal.returns
returns c = search number-plain
