-- Each way out is one of `to_first_fault`, and past them the table is moved to a types byte with as many types.
use mathlib.Core.Bool.{not}
use mathlib.Core.Path.{refl, ap}
use borrow.Author.Rules.{rules}
use Rattle.fault.proofs.RefusalLaws.{some_number, answer_on}
use Rattle.fault.specs.Refusals.{nothing_by}
use Rattle.editions.specs.Entry.{to_first_answer, to_first_bytes}
use Rattle.editions.proofs.EntryLaws.{sized-table, down-inside, down-types, first-refused, first-divides, first-already, first-given}
use Rattle.editions.proofs.moved_down.Goals as goal

pub returns-in_err-table_fault : goal.returns-in_err-table_fault
unfolding to_first_answer to_first_bytes
returns-in_err-table_fault c = let a = c.args in
    let E = first-refused a.table.now a.out.now c.in_err-table_fault.ensures (some_number _) (answer_on _ _ c.from_residual.ensures.1) in record { value = E.answer; out_after = E.bytes }

pub divided-requires : goal.divided-requires
unfolding to_first_answer to_first_bytes
divided-requires c = sized-table _ c.in_ok-table_fault.ensures refl

pub returns-in_err-divided : goal.returns-in_err-divided
unfolding to_first_answer to_first_bytes
returns-in_err-divided c = let a = c.args in
    let E = first-divides a.table.now a.out.now c.in_ok-table_fault.ensures refl c.in_err-divided.ensures (some_number _) (answer_on _ _ c.from_residual-in_err-divided.ensures.1) in record { value = E.answer; out_after = E.bytes }

pub types_byte-byte-requires : goal.types_byte-byte-requires
unfolding to_first_answer to_first_bytes
types_byte-byte-requires c = (sized-table _ c.in_ok-table_fault.ensures refl).long

pub returns-then-not-second : goal.returns-then-not-second
unfolding to_first_answer to_first_bytes
returns-then-not-second c = let a = c.args in
    let E = first-already a.table.now a.out.now c.in_ok-table_fault.ensures refl c.in_ok-divided.ensures refl c.types_byte-byte.ensures.0 c.second.ensures (ap not c.if-not-second.true) (ap nothing_by c.at.ensures) in record { value = E.answer; out_after = E.bytes }

pub overflow_sub-byte : goal.overflow_sub-byte
unfolding to_first_answer to_first_bytes
overflow_sub-byte c = search down-inside

pub give-requires : goal.give-requires
unfolding to_first_answer to_first_bytes
give-requires c = (sized-table _ c.in_ok-table_fault.ensures refl, search rules, down-types _ (sized-table _ c.in_ok-table_fault.ensures refl) c.types_byte-byte.ensures.0 c.second.ensures (ap not c.if-not-second.false))

pub returns : goal.returns
unfolding to_first_answer to_first_bytes
returns c = let a = c.args in
    let E = first-given a.table.now a.out.now c.in_ok-table_fault.ensures refl c.in_ok-divided.ensures refl c.types_byte-byte.ensures.0 c.second.ensures (ap not c.if-not-second.false) c.give.ensures.value c.give.ensures.out_after in record { value = E.answer; out_after = E.bytes }
