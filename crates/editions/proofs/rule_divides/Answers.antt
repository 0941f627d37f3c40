-- The record that is looked at is that of rule r: 32 where it has an e other than 1, and 0 else, as in `rule_divides`.
use borrow.Author.Rules.{rules}
use Rattle.table.proofs.RecordLaws.{record_long}
use Rattle.editions.proofs.EntryLaws.{rule-divides_yes, rule-divides_no}
use Rattle.editions.proofs.rule_divides.Goals as goal

pub divides-requires : goal.divides-requires
divides-requires c = (search rules, search record_long)

pub returns-then-divides : goal.returns-then-divides
returns-then-divides c = search rule-divides_yes

pub returns : goal.returns
returns c = search rule-divides_no
