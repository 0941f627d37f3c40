-- What `read` told decides: stuck is 60 at its place, a count outside its range is 2, and else the records with their trailer are the table that `give` looks at.
use mathlib.Core.Path.{refl, sym, ap, ◌∙◌}
use lib.Seq.{length-take-le}
use native.Mathlib.Omega.{arith}
use Rattle.fault.specs.Refusals.{nothing_by}
use Rattle.fault.proofs.RefusalLaws.{answer_on}
use Rattle.table.proofs.TableLaws.{counts_by}
use Rattle.drawing.proofs.EntryLaws.{few_records, table-room, undrew_stuck, undrew_outside, undrew_table}
use Rattle.drawing.proofs.undraw_in.Goals as goal

pub returns-in_err-g : goal.returns-in_err-g
returns-in_err-g c = let E = undrew_stuck c.in_err-g.ensures.0 refl (answer_on _ _ c.from_residual.ensures.1) in record { value = E.answer; out_after = E.bytes }

pub counts_outside-requires : goal.counts_outside-requires
counts_outside-requires c = omega (arith, c.in_ok-g.ensures.0.few)

pub returns-then-counts_outside : goal.returns-then-counts_outside
returns-then-counts_outside c = let E = undrew_outside c.in_ok-g.ensures.0 c.counts_outside.ensures c.if-counts_outside.true (ap nothing_by c.at.ensures) in
    record { value = E.answer; out_after = E.bytes }

pub close-requires : goal.close-requires
close-requires c = let e = c.counts_outside.ensures in
    let h = c.if-counts_outside.false in
    let k = c.in_ok-g.ensures.0 in
    (counts_by _ _ _ _ e h, omega (arith, k.few), few_records k e h)

pub overflow_add-n : goal.overflow_add-n
overflow_add-n c = omega (arith, few_records c.in_ok-g.ensures.0 c.counts_outside.ensures c.if-counts_outside.false)

pub slice_bounds-give-end : goal.slice_bounds-give-end
slice_bounds-give-end c = table-room c.in_ok-g.ensures.0 c.in_ok-g.ensures.1 c.requires c.counts_outside.ensures c.if-counts_outside.false c.close.ensures

pub slice_bounds-give-end-2 : goal.slice_bounds-give-end-2
slice_bounds-give-end-2 c = sym (length-take-le _ _ (table-room c.in_ok-g.ensures.0 c.in_ok-g.ensures.1 c.requires c.counts_outside.ensures c.if-counts_outside.false c.close.ensures))

pub returns : goal.returns
returns c = let E = undrew_table c.in_ok-g.ensures.0 (c.in_ok-g.ensures.1 ∙ c.requires) c.counts_outside.ensures c.if-counts_outside.false c.close.ensures refl (record { answer = c.give.ensures.value; bytes = c.give.ensures.out_after }) in
    record { value = E.answer; out_after = E.bytes }
