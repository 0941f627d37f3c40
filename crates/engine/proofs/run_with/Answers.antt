-- The entry's three ways: what reading refuses, 30, and the run in as many words as the bundle needs.
use mathlib.Core.Path.{refl, sym, ap, ◌∙◌}
use lib.Seq.{length-take-le}
use Rattle.fault.proofs.RefusalLaws.{some_number}
use Rattle.words.specs.Words.{room_of}
use Rattle.engine.proofs.EntryLaws.{opens_as, opens_unread, opens_clean, nothing_done_lem, enter-refused, enter-short, enter_run, ready_parts, ready-answer, ready_words}
use Rattle.engine.proofs.run_with.Goals as goal

pub returns-in-Err : goal.returns-in-Err
returns-in-Err c = let a = c.args in
    let E = enter-refused a.bundle.now a.standing.now a.lent.now (opens_unread a.bundle.now a.standing.now c.in-Err.ensures (some_number _)) (nothing_done_lem a.bundle.now a.standing.now c.in-Err.ensures c.from.ensures) in
    record { value = E.answer; lent_after = E.words }

pub returns-then-lent-need : goal.returns-then-lent-need
returns-then-lent-need c = let a = c.args in
    let E = enter-short a.bundle.now a.standing.now a.lent.now (opens_clean a.bundle.now a.standing.now (opens_as c.rules-rules.ensures c.in_default.ensures) refl) (c.room-need.ensures.0 ∙ ap room_of ((opens_as c.rules-rules.ensures c.in_default.ensures).ready refl).sizes) c.if-lent-need.true (rw c.at.ensures at c.from-then-lent-need.ensures) in
    record { value = E.answer; lent_after = E.words }

pub slice_bounds-run_in-end-2 : goal.slice_bounds-run_in-end-2
slice_bounds-run_in-end-2 c = sym (length-take-le _ _ c.if-lent-need.false)

pub run_in-requires : goal.run_in-requires
run_in-requires c = (ready_parts ((opens_as c.rules-rules.ensures c.in_default.ensures).ready refl), length-take-le _ _ c.if-lent-need.false ∙ c.room-need.ensures.0)

pub returns : goal.returns
returns c = let a = c.args in
    let ready = (opens_as c.rules-rules.ensures c.in_default.ensures).ready refl in
    let E = enter_run a.bundle.now a.standing.now a.lent.now (opens_clean a.bundle.now a.standing.now (opens_as c.rules-rules.ensures c.in_default.ensures) refl) (c.room-need.ensures.0 ∙ ap room_of ready.sizes) c.if-lent-need.false (c.ran.ensures ∙ ready-answer ready c.run_in.ensures.by_design) (ready_words ready c.run_in.ensures.by_design_2) in
    record { value = E.answer; lent_after = E.words }
