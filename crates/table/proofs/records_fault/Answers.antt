-- States, then the initial state, then rules: each stage goes on only where the one before refuses nothing, as in `records_fault`.
use mathlib.Core.Path.{◌∙◌}
use borrow.Author.Rules.{rules}
use Rattle.fault.proofs.FaultLaws.{if_yes, if_no}
use Rattle.fault.proofs.RefusalLaws.{handed_on, refused_stop, fine_pass}
use Rattle.table.specs.Refusals.{records_fault}
use Rattle.table.proofs.records_fault.Goals as goal

pub returns-in_err-states_fault : goal.returns-in_err-states_fault
unfolding records_fault
returns-in_err-states_fault c =
    handed_on c.from_residual.result _ c.from_residual.ensures.1 ∙ refused_stop _ _ c.in_err-states_fault.ensures

pub returns-then-no_initial : goal.returns-then-no_initial
unfolding records_fault
returns-then-no_initial c = rw c.at.ensures (fine_pass c.in_ok-states_fault.ensures (search (if_yes, rules)))

pub returns : goal.returns
unfolding records_fault
returns c = fine_pass c.in_ok-states_fault.ensures (search (if_no, rules))
