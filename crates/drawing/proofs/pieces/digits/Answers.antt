-- A first digit begins a number, whose rest is read on; without one no drawing goes on here.
use Rattle.drawing.proofs.DigitLaws.{first-digit, digits-begin, digits-none}
use Rattle.drawing.proofs.pieces.digits.Goals as goal

pub overflow_sub-x : goal.overflow_sub-x
overflow_sub-x c = (first-digit _ _ c.args.negative c.peek-x.ensures.0 c.begins.ensures c.if-begins.true).least

pub rest-requires : goal.rest-requires
rest-requires c = let f = first-digit _ _ c.args.negative c.peek-x.ensures.0 c.begins.ensures c.if-begins.true in (f.there, f.size, f.positive)

pub returns-then-begins : goal.returns-then-begins
returns-then-begins c = search digits-begin

pub returns : goal.returns
returns c = search digits-none
