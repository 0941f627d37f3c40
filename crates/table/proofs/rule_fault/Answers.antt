-- The first of 6, 9, 7, 8 whose test says yes. The tests for 7 and 8 may look up both ends, since 6 has been passed.
use borrow.Author.Rules.{rules}
use Rattle.fault.proofs.FaultLaws.{if_yes, if_no}
use Rattle.table.proofs.TableLaws.{rule-ends}
use Rattle.table.specs.Refusals.{rule_fault}
use Rattle.table.proofs.rule_fault.Goals as goal

pub no_state-requires : goal.no_state-requires
unfolding rule_fault
no_state-requires c = search rules

pub returns-then-no_state : goal.returns-then-no_state
unfolding rule_fault
returns-then-no_state c = search (if_yes, if_no, rules)

pub divisor_off-requires : goal.divisor_off-requires
unfolding rule_fault
divisor_off-requires c = search rules

pub returns-then-divisor_off : goal.returns-then-divisor_off
unfolding rule_fault
returns-then-divisor_off c = search (if_yes, if_no, rules)

pub forgets-requires : goal.forgets-requires
unfolding rule_fault
forgets-requires c = record { sized = search rules; rule_ends = search rule-ends }

pub returns-then-forgets : goal.returns-then-forgets
unfolding rule_fault
returns-then-forgets c = search (if_yes, if_no, rules)

pub sends_two-requires : goal.sends_two-requires
unfolding rule_fault
sends_two-requires c = record { sized = search rules; rule_ends = search rule-ends }

pub returns-then-sends_two : goal.returns-then-sends_two
unfolding rule_fault
returns-then-sends_two c = search (if_yes, if_no, rules)

pub returns : goal.returns
unfolding rule_fault
returns c = search (if_yes, if_no, rules)
