-- Where n is inside, the byte is set there; past the end nothing changes. Either way it is `stored` of one byte.
use native.Mathlib.Omega.{arith}
use borrow.Author.Rules.{rules}
use Rattle.ink.proofs.InkLaws.{stored-fits, stored-over}
use Rattle.ink.proofs.put.Goals as goal

pub returns-then-n-out : goal.returns-then-n-out
returns-then-n-out c = (omega arith, search stored-fits)

pub returns : goal.returns
returns c = (omega arith, search (stored-over, rules))
