-- The record that is looked at is that of rule k.
use borrow.Author.Rules.{rules}
use Rattle.table.proofs.RecordLaws.{record_long, divisor-off-is}
use Rattle.table.proofs.divisor_off.Goals as goal

pub divisor_outside-requires : goal.divisor_outside-requires
divisor_outside-requires c = (search rules, search record_long)

pub returns : goal.returns
returns c = search divisor-off-is
