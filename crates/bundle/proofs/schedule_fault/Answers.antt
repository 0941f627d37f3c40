-- 12, 13, then the starts. Where 13 says no the bundle's parts lie inside it, so the starts are one byte for each correct board.
use borrow.Author.Rules.{rules}
use Rattle.bundle.proofs.BundleLaws.{parted, admitted-with, starts-last}
use Rattle.bundle.specs.Refusals.{schedule_fault}
use Rattle.fault.proofs.FaultLaws.{if_yes, if_no}
use Rattle.bundle.proofs.schedule_fault.Goals as goal

pub returns-then-not_admitted : goal.returns-then-not_admitted
unfolding schedule_fault
returns-then-not_admitted c = search (if_yes, admitted-with, rules)

pub returns-then-steps_off : goal.returns-then-steps_off
unfolding schedule_fault
returns-then-steps_off c = search (if_yes, if_no, admitted-with, rules)

pub starts-requires : goal.starts-requires
unfolding schedule_fault
starts-requires c = (search rules, search parted)

pub returns : goal.returns
unfolding schedule_fault
returns c = search (if_no, admitted-with, starts-last)
