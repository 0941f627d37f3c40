-- Its two ends, then what it says of each type. A record has at least two bytes.
use borrow.Author.Rules.{rules}
use Rattle.editions.proofs.MovedLaws.{record_put}
use Rattle.editions.proofs.put_rule.Goals as goal

pub returns : goal.returns
returns c = (search record_put, search rules)
