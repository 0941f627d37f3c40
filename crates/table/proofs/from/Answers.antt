-- The record's first byte; the record lies inside the table.
use borrow.Author.Rules.{rules}
use Rattle.table.proofs.from.Goals as goal

pub returns : goal.returns
returns c = (cc, search rules)
