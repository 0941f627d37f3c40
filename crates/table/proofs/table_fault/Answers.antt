-- 1, 2 and 3 in this order. Passing all three gives the sizes that the records' checks ask for.
use borrow.Author.Rules.{rules}
use Rattle.fault.proofs.FaultLaws.{if_yes, if_no}
use Rattle.table.proofs.TableLaws.{long_by, sized_by}
use Rattle.table.specs.Refusals.{table_fault}
use Rattle.table.proofs.table_fault.Goals as goal

pub too_short-requires : goal.too_short-requires
unfolding table_fault
too_short-requires c = search rules

pub returns-then-too_short : goal.returns-then-too_short
unfolding table_fault
returns-then-too_short c = search (if_yes, if_no, rules)

pub counts_off-requires : goal.counts_off-requires
unfolding table_fault
counts_off-requires c = search long_by

pub returns-then-counts_off : goal.returns-then-counts_off
unfolding table_fault
returns-then-counts_off c = search (if_yes, if_no, rules)

pub distances_off-requires : goal.distances_off-requires
unfolding table_fault
distances_off-requires c = search long_by

pub returns-then-distances_off : goal.returns-then-distances_off
unfolding table_fault
returns-then-distances_off c = search (if_yes, if_no, rules)

pub records_fault-requires : goal.records_fault-requires
unfolding table_fault
records_fault-requires c = search sized_by

pub returns : goal.returns
unfolding table_fault
returns c = search (if_yes, if_no, rules)
