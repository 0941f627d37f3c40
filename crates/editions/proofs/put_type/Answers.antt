-- a, b and d, and in the second edition e, one byte after the other.
use borrow.Author.Rules.{rules}
use Rattle.editions.proofs.MovedLaws.{type-put-first, type-put-second}
use Rattle.editions.proofs.put_type.Goals as goal

pub returns-then-second : goal.returns-then-second
returns-then-second c = (search type-put-second, search rules)

pub returns : goal.returns
returns c = (search type-put-first, search rules)
