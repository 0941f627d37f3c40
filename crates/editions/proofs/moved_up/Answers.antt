-- Each way out is one of `to_second_fault`, and past them the table is moved to a types byte with as many types.
use mathlib.Core.Path.{refl, ap}
use Rattle.fault.proofs.RefusalLaws.{some_number, answer_on}
use Rattle.fault.specs.Refusals.{nothing_by}
use Rattle.editions.specs.Entry.{to_second_answer, to_second_bytes}
use Rattle.editions.proofs.EntryLaws.{sized-table, up_small, up-types, second-refused, second-already, second-given}
use Rattle.editions.proofs.moved_up.Goals as goal

pub returns-in_err-table_fault : goal.returns-in_err-table_fault
unfolding to_second_answer to_second_bytes
returns-in_err-table_fault c = let a = c.args in
    let E = second-refused a.table.now a.out.now c.in_err-table_fault.ensures (some_number _) (answer_on _ _ c.from_residual.ensures.1) in record { value = E.answer; out_after = E.bytes }

pub types_byte-byte-requires : goal.types_byte-byte-requires
unfolding to_second_answer to_second_bytes
types_byte-byte-requires c = (sized-table _ c.in_ok-table_fault.ensures refl).long

pub returns-then-second : goal.returns-then-second
unfolding to_second_answer to_second_bytes
returns-then-second c = let a = c.args in
    let E = second-already a.table.now a.out.now c.in_ok-table_fault.ensures refl c.types_byte-byte.ensures.0 c.second.ensures c.if-second.true (ap nothing_by c.at.ensures) in record { value = E.answer; out_after = E.bytes }

pub give-requires : goal.give-requires
unfolding to_second_answer to_second_bytes
give-requires c = (sized-table _ c.in_ok-table_fault.ensures refl, search up_small, search up-types)

pub returns : goal.returns
unfolding to_second_answer to_second_bytes
returns c = let a = c.args in
    let E = second-given a.table.now a.out.now c.in_ok-table_fault.ensures refl c.types_byte-byte.ensures.0 c.second.ensures c.if-second.false c.give.ensures.value c.give.ensures.out_after in record { value = E.answer; out_after = E.bytes }
