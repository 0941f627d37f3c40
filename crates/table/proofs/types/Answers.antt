-- By the types byte.
use borrow.Author.Rules.{rules}
use Rattle.table.proofs.types.Goals as goal

pub returns : goal.returns
returns c = (cc, search rules)
