-- 10, 11, the table's own refusal, then the schedule's: each check is reached where those before say no, and these give what it asks for.
use mathlib.Core.Path.{refl, ◌∙◌}
use borrow.Author.Rules.{rules}
use Rattle.bundle.proofs.BundleLaws.{trailer_by, trailed, table-sized}
use Rattle.bundle.specs.Refusals.{fault_with}
use Rattle.fault.proofs.FaultLaws.{if_yes, if_no}
use Rattle.fault.proofs.RefusalLaws.{handed_on, refused_stop, fine_pass}
use Rattle.bundle.proofs.fault_with.Goals as goal

pub returns-then-no_trailer : goal.returns-then-no_trailer
unfolding fault_with
returns-then-no_trailer c = search (if_yes, rules)

pub out_of_bundle-requires : goal.out_of_bundle-requires
out_of_bundle-requires c = search trailer_by

pub returns-then-out_of_bundle : goal.returns-then-out_of_bundle
unfolding fault_with
returns-then-out_of_bundle c = search (if_yes, if_no, rules)

pub returns-in_err-table_fault : goal.returns-in_err-table_fault
unfolding fault_with
returns-in_err-table_fault c = handed_on c.from_residual.result _ c.from_residual.ensures.1 ∙
    if_no _ c.no_trailer.ensures c.if-no_trailer.false (if_no _ c.out_of_bundle.ensures c.if-out_of_bundle.false (refused_stop _ _ c.in_err-table_fault.ensures))

pub schedule_fault-requires : goal.schedule_fault-requires
schedule_fault-requires c = (table-sized _ c.in_ok-table_fault.ensures refl, search trailed)

pub returns : goal.returns
unfolding fault_with
returns c =
    if_no _ c.no_trailer.ensures c.if-no_trailer.false (if_no _ c.out_of_bundle.ensures c.if-out_of_bundle.false (fine_pass c.in_ok-table_fault.ensures c.schedule_fault.ensures))
