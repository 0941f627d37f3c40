-- 4 where the state is off and 0 else, as in `state_fault`.
use borrow.Author.Rules.{rules}
use Rattle.fault.proofs.FaultLaws.{if_yes, if_no}
use Rattle.table.specs.Refusals.{state_fault}
use Rattle.table.proofs.state_fault.Goals as goal

pub state_off-requires : goal.state_off-requires
unfolding state_fault
state_off-requires c = search rules

pub returns-then-state_off : goal.returns-then-state_off
unfolding state_fault
returns-then-state_off c = search (if_yes, rules)

pub returns-else-state_off : goal.returns-else-state_off
unfolding state_fault
returns-else-state_off c = search (if_no, rules)
