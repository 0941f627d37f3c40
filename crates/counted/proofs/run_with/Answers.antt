-- The entry's three ways, as those of a run; with the run the two numbers are those of its words.
use mathlib.Core.Path.{refl, sym, ap, ◌∙◌}
use lib.ListN.{length}
use lib.Seq.{length-take-le}
use Rattle.fault.proofs.RefusalLaws.{some_number}
use Rattle.words.specs.Words.{room_of}
use Rattle.engine.proofs.EntryLaws.{opens_as, opens_unread, opens_clean, nothing_done_lem, enter-refused, enter-short, enter_run, ready_parts, ready-answer, ready_words}
use Rattle.counted.proofs.EntryLaws.{receipts_are, sends_are, counted_unread, counted-short, counted_ran}
use Rattle.counted.proofs.run_with.Goals as goal

pub returns-in-Err : goal.returns-in-Err
returns-in-Err c = let a = c.args in
    let E = enter-refused a.bundle.now a.standing.now a.lent.now (opens_unread a.bundle.now a.standing.now c.in-Err.ensures (some_number _)) (nothing_done_lem a.bundle.now a.standing.now c.in-Err.ensures c.from.ensures) in
    record { value = counted_unread a.bundle.now a.standing.now (length a.lent.now) c.in-Err.ensures (some_number _) c.told.ensures E.answer; lent_after = E.words }

pub returns-then-lent-need : goal.returns-then-lent-need
returns-then-lent-need c = let a = c.args in
    let need = c.room-need.ensures.0 ∙ ap room_of ((opens_as c.rules-rules.ensures c.in_default.ensures).ready refl).sizes in
    let E = enter-short a.bundle.now a.standing.now a.lent.now (opens_clean a.bundle.now a.standing.now (opens_as c.rules-rules.ensures c.in_default.ensures) refl) need c.if-lent-need.true (rw c.at.ensures at c.from-then-lent-need.ensures) in
    record { value = counted-short a.bundle.now a.standing.now (length a.lent.now) (opens_as c.rules-rules.ensures c.in_default.ensures) refl need c.if-lent-need.true c.told-then-lent-need.ensures E.answer; lent_after = E.words }

pub slice_bounds-count_in-end-2 : goal.slice_bounds-count_in-end-2
slice_bounds-count_in-end-2 c = sym (length-take-le _ _ c.if-lent-need.false)

pub count_in-requires : goal.count_in-requires
count_in-requires c = let ready = (opens_as c.rules-rules.ensures c.in_default.ensures).ready refl in
    (ready_parts ready, length-take-le _ _ c.if-lent-need.false ∙ c.room-need.ensures.0)

pub returns : goal.returns
returns c = let a = c.args in
    let ready = (opens_as c.rules-rules.ensures c.in_default.ensures).ready refl in let need = c.room-need.ensures.0 ∙ ap room_of ready.sizes in
    let left = ready_words ready c.count_in.ensures.by_design_2 in
    let E = enter_run a.bundle.now a.standing.now a.lent.now (opens_clean a.bundle.now a.standing.now (opens_as c.rules-rules.ensures c.in_default.ensures) refl) need c.if-lent-need.false (ready-answer ready c.count_in.ensures.by_design) left in
    record { value = counted_ran a.bundle.now a.standing.now (length a.lent.now) (opens_as c.rules-rules.ensures c.in_default.ensures) refl need c.if-lent-need.false E.answer (c.count_in.ensures.receipts_value.0 ∙ receipts_are ready left) (c.count_in.ensures.receipts_value.1 ∙ sends_are ready left); lent_after = E.words }
