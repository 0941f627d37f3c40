-- A refused table, too few bytes lent and enough of them are the three cases of `given` and `left`.
use mathlib.Core.Path.{refl, ap}
use Rattle.fault.specs.Refusals.{nothing_by}
use Rattle.fault.proofs.RefusalLaws.{some_number, answer_on}
use Rattle.ink.proofs.GivenLaws.{gave_refused, gave_short, gave_all}
use Rattle.drawing.proofs.give.Goals as goal

pub returns-in_err-table_fault : goal.returns-in_err-table_fault
returns-in_err-table_fault c = let a = c.args in
    let E = gave_refused 61 a.table.now a.out.now c.in_err-table_fault.ensures (some_number _) (answer_on _ _ c.from_residual.ensures.1) in record { value = E.answer; out_after = E.bytes }

pub returns-then-out-table : goal.returns-then-out-table
returns-then-out-table c = let a = c.args in
    let E = gave_short 61 a.table.now a.out.now c.in_ok-table_fault.ensures refl c.if-out-table.true (ap nothing_by c.at.ensures) in record { value = E.answer; out_after = E.bytes }

pub returns : goal.returns
returns c = let a = c.args in
    let E = gave_all 61 a.table.now a.out.now c.in_ok-table_fault.ensures refl c.if-out-table.false refl c.put_all.ensures.bytes in
    record { value = E.answer; out_after = E.bytes }
