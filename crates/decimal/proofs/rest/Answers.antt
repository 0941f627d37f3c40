-- The loop keeps that the number so far, before what is left, comes to the same.
use native.Mathlib.Omega.{arith}
use borrow.Author.Rules.{rules}
use Rattle.decimal.proofs.DigitLaws.{grows_none, grows-next, grows-more, grows_stop, grows_over}
use Rattle.decimal.proofs.rest.Goals as goal

pub loop-j-init : goal.loop-j-init
loop-j-init c = search (grows_none, rules)

pub returns-then-not-grows : goal.returns-then-not-grows
returns-then-not-grows c = search grows_stop

pub overflow_sub-w : goal.overflow_sub-w
overflow_sub-w c = (grows-next c.grows.ensures c.if-not-grows.false c.requires.2).least

pub overflow_add-w : goal.overflow_add-w
overflow_add-w c = omega (arith, (grows-next c.grows.ensures c.if-not-grows.false c.requires.2).most)

pub loop-j-preserved : goal.loop-j-preserved
loop-j-preserved c = search grows-more

pub returns : goal.returns
returns c = search grows_over
