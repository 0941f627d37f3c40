-- The entry in its order: what reading refuses, 31, 30, then the run.
use mathlib.Core.Path.{refl, ◌∙◌}
use lib.ListN.{length, take, take-append-drop}
use lib.Seq.{length-take-le}
use Rattle.std.proofs.lemmas.Result.{err_from_is_err_and}
use Rattle.fault.proofs.RefusalLaws.{some_number}
use Rattle.engine.proofs.EntryLaws.{opens_as, opens_unread, opens_clean, nothing_done_lem, ready_parts}
use Rattle.translate.proofs.ReadLaws.{fair_by}
use Rattle.translate.proofs.EntryLaws.{other-is, other-known, enter-refused, enter-same, enter-short, enter_long, ready-wrote, ready-bytes}
use Rattle.translate.proofs.translated.Goals as goal

pub returns-in_err-open : goal.returns-in_err-open
returns-in_err-open c = let a = c.args in
    let p = err_from_is_err_and c.from_residual.result c.from_residual.ensures.1 in
    let E = enter-refused a.bundle.now a.standing.now a.form a.out.now (opens_unread a.bundle.now a.standing.now c.in_err-open.ensures (some_number _)) (nothing_done_lem a.bundle.now a.standing.now c.in_err-open.ensures refl) in record { value = rw (p.1, p.2) E.answer; out_after = E.bytes }

pub returns-then-form : goal.returns-then-form
returns-then-form c = let a = c.args in
    let E = enter-same a.bundle.now a.standing.now a.form a.out.now (opens_clean a.bundle.now a.standing.now (opens_as c.rules-rules.ensures c.in_ok-open.ensures) refl) (other-is a.bundle.now a.form c.form.ensures.0 ∙ c.if-form.true) (rw c.at.ensures refl) in record { value = E.answer; out_after = E.bytes }

pub returns-then-out-need : goal.returns-then-out-need
returns-then-out-need c = let a = c.args in
    let E = enter-short a.bundle.now a.standing.now a.form a.out.now (opens_clean a.bundle.now a.standing.now (opens_as c.rules-rules.ensures c.in_ok-open.ensures) refl) (other-is a.bundle.now a.form c.form.ensures.0 ∙ c.if-form.false) c.if-out-need.true (rw c.at-then-out-need.ensures refl) in record { value = E.answer; out_after = E.bytes }

pub translate_in-requires : goal.translate_in-requires
translate_in-requires c = let a = c.args in
    let ready = (opens_as c.rules-rules.ensures c.in_ok-open.ensures).ready refl in
    (ready_parts ready, fair_by a.bundle.now a.standing.now ready, other-known a.bundle.now a.form (other-is a.bundle.now a.form c.form.ensures.0 ∙ c.if-form.false), length-take-le _ _ c.if-out-need.false)

pub returns : goal.returns
returns c = let a = c.args in
    let o = other-is a.bundle.now a.form c.form.ensures.0 ∙ c.if-form.false in
    let ready = (opens_as c.rules-rules.ensures c.in_ok-open.ensures).ready refl in
    let E = enter_long a.bundle.now a.standing.now a.form a.out.now (opens_clean a.bundle.now a.standing.now (opens_as c.rules-rules.ensures c.in_ok-open.ensures) refl) o (take (length a.bundle.now) a.out.now) c.if-out-need.false (ready-wrote a.bundle.now a.standing.now a.form ready c.translate_in.ensures) (ready-bytes a.bundle.now a.standing.now a.form ready c.translate_in.ensures (other-known a.bundle.now a.form o)) (take-append-drop (length a.bundle.now) a.out.now) in record { value = E.answer; out_after = E.bytes }
