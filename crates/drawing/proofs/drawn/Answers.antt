-- Writing into no bytes gives the drawing's length and changes nothing. A refused table, too few bytes lent and enough of them are the three cases of `given`.
use mathlib.Core.Path.{refl, ap, ◌∙◌}
use mathlib.Core.List.{List}
use Prim.Native.Nat.{ℕ}
use native.Mathlib.Omega.{arith}
use lib.ListN.{length}
use Rattle.fault.specs.Refusals.{nothing_by}
use Rattle.fault.proofs.RefusalLaws.{some_number, answer_on}
use Rattle.ink.specs.Ink.{stored}
use Rattle.dot.specs.Text.{drawing_of}
use Rattle.drawing.specs.Entry.{draw_answer, draw_bytes}
use Rattle.ink.proofs.GivenLaws.{gave_refused, gave_short, gave_all}
use Rattle.drawing.proofs.EntryLaws.{sized-table, measured, writes}
use Rattle.drawing.proofs.drawn.Goals as goal

pub returns-in_err-table_fault : goal.returns-in_err-table_fault
unfolding draw_answer draw_bytes
returns-in_err-table_fault c = let a = c.args in
    let E = gave_refused 61 (drawing_of a.table.now) a.out.now c.in_err-table_fault.ensures (some_number _) (answer_on _ _ c.from_residual.ensures.1) in record { value = E.answer; out_after = E.bytes }

pub write-n-requires : goal.write-n-requires
unfolding draw_answer draw_bytes
write-n-requires c = sized-table c.args.table.now c.in_ok-table_fault.ensures refl

pub returns-then-out-n : goal.returns-then-out-n
unfolding draw_answer draw_bytes
returns-then-out-n c = let d = drawing_of c.args.table.now in
    let M = measured _ d c.args.out.now c.write-n.ensures.2 in
    let E = gave_short 61 d c.args.out.now c.in_ok-table_fault.ensures refl (omega (arith, ap length M, c.write-n.ensures.0, c.if-out-n.true)) (ap nothing_by c.at.ensures) in
    record { value = E.answer; out_after = M ∙ E.bytes }

pub write-requires : goal.write-requires
unfolding draw_answer draw_bytes
write-requires c = sized-table c.args.table.now c.in_ok-table_fault.ensures refl

pub returns : goal.returns
unfolding draw_answer draw_bytes
returns c = let d = drawing_of c.args.table.now in
    let M = measured _ d c.args.out.now c.write-n.ensures.2 in
    let E = gave_all 61 d c.args.out.now c.in_ok-table_fault.ensures refl (omega (arith, ap length M, c.write-n.ensures.0, c.if-out-n.false)) (ap writes c.write-n.ensures.0) (c.write.ensures.2 ∙ ap (λ (l : List ℕ). stored l 0 d) M) in
    record { value = E.answer; out_after = E.bytes }
