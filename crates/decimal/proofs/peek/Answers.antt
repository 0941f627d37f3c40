-- By the test: inside the text its byte, past the end 256.
use native.Mathlib.Omega.{arith}
use borrow.Author.Rules.{rules}
use Rattle.decimal.proofs.DigitLaws.{peek-there, peek-over}
use Rattle.decimal.proofs.peek.Goals as goal

pub returns-then-i-text : goal.returns-then-i-text
returns-then-i-text c = (search peek-there, search rules)

pub returns : goal.returns
returns c = (search (peek-over, rules), omega arith)
