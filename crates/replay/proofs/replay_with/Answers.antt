-- The checks one after the other, each with its answer; then the run of the bundle that is made, for which all that was made ready is ready too.
use mathlib.Core.Path.{refl, sym, ap, ap₂, ◌∙◌}
use mathlib.Core.List.{List, ◌++◌}
use Prim.Native.Nat.{ℕ, ◌+◌, ◌*◌}
use native.Mathlib.Omega.{arith}
use lib.Dec.{ltb}
use lib.ListN.{length, drop}
use lib.Seq.{length-take-le}
use Rattle.fault.specs.Bytes.{most_steps, step_bytes}
use Rattle.bundle.proofs.BundleLaws.{read_short}
use Rattle.fault.proofs.RefusalLaws.{some_number}
use Rattle.service_log.proofs.LinesLaws.{steps-few}
use Rattle.engine.proofs.EntryLaws.{opens_as, opens_unread, opens_clean, nothing_done_lem}
use Rattle.replay.proofs.EntryLaws.{no_steps, blank, made-long, made_entered, room_test, bytes_fit, words-fit, reading-refuses, steps_refuse, log_refuses, room-refuses, replayed}
use Rattle.replay.proofs.replay_with.Goals as goal

pub returns-in-Err : goal.returns-in-Err
returns-in-Err c = let a = c.args in
    let E = reading-refuses a.bundle.now a.standing.now a.log.now a.out.now a.words.now (opens_unread a.bundle.now a.standing.now c.in-Err.ensures (some_number _)) (nothing_done_lem a.bundle.now a.standing.now c.in-Err.ensures c.from.ensures) in
    record { value = E.answer; out_after = E.bytes; words_after = E.words_left }

pub not_empty-requires : goal.not_empty-requires
not_empty-requires c = ((opens_as c.rules-rules.ensures c.in_default.ensures).ready refl).read.trailed.long

pub returns-then-not_empty : goal.returns-then-not_empty
returns-then-not_empty c = let a = c.args in
    let E = steps_refuse a.bundle.now a.standing.now a.log.now a.out.now a.words.now (opens_clean a.bundle.now a.standing.now (opens_as c.rules-rules.ensures c.in_default.ensures) refl) c.not_empty.ensures c.if-not_empty.true (rw c.at.ensures at c.from-then-not_empty.ensures) in
    record { value = E.answer; out_after = E.bytes; words_after = E.words_left }

pub returns-in-Err-check_lines : goal.returns-in-Err-check_lines
returns-in-Err-check_lines c = let a = c.args in
    let E = log_refuses a.bundle.now a.standing.now a.log.now a.out.now a.words.now (opens_clean a.bundle.now a.standing.now (opens_as c.rules-rules.ensures c.in_default.ensures) refl) c.not_empty.ensures c.if-not_empty.false c.in-Err-check_lines.ensures.0 (some_number c.in-Err-check_lines.wrong.refusal) c.from-in-Err-check_lines.ensures in
    record { value = E.answer; out_after = E.bytes; words_after = E.words_left }

pub overflow_mul-need : goal.overflow_mul-need
overflow_mul-need c = let a = c.args in
    omega (arith, c.in-Ok.ensures.1, steps-few most_steps a.log.now)

pub overflow_add-need : goal.overflow_add-need
overflow_add-need c = let a = c.args in
    omega (arith, c.in-Ok.ensures.1, steps-few most_steps a.log.now, read_short a.bundle.now a.standing.now ((opens_as c.rules-rules.ensures c.in_default.ensures).ready refl).read)

pub returns-then-out-need : goal.returns-then-out-need
returns-then-out-need c = let a = c.args in
    let E = room-refuses a.bundle.now a.standing.now a.log.now a.out.now a.words.now (opens_clean a.bundle.now a.standing.now (opens_as c.rules-rules.ensures c.in_default.ensures) refl) c.not_empty.ensures c.if-not_empty.false c.in-Ok.ensures.0
    (room_test a.bundle.now a.standing.now a.log.now (length a.out.now) (length a.words.now) c.in-Ok.ensures.1 c.room-room.ensures.0 ((opens_as c.rules-rules.ensures c.in_default.ensures).ready refl).sizes) c.if-out-need.true (rw c.at-then-out-need.ensures at c.from-then-out-need.ensures) in
    record { value = E.answer; out_after = E.bytes; words_after = E.words_left }

pub slice_bounds-replay_in-end : goal.slice_bounds-replay_in-end
slice_bounds-replay_in-end c = bytes_fit _ _ _ c.if-out-need.false

pub slice_bounds-replay_in-end-2 : goal.slice_bounds-replay_in-end-2
slice_bounds-replay_in-end-2 c = sym (length-take-le _ _ (bytes_fit _ _ _ c.if-out-need.false))

pub slice_bounds-replay_in-end-3 : goal.slice_bounds-replay_in-end-3
slice_bounds-replay_in-end-3 c = let a = c.args in
    words-fit (ltb (length a.out.now) (length a.bundle.now + c.in-Ok.lines * step_bytes)) _ _ c.if-out-need.false

pub slice_bounds-replay_in-end-4 : goal.slice_bounds-replay_in-end-4
slice_bounds-replay_in-end-4 c = let a = c.args in
    sym (length-take-le _ _ (words-fit (ltb (length a.out.now) (length a.bundle.now + c.in-Ok.lines * step_bytes)) _ _ c.if-out-need.false))

pub replay_in-requires : goal.replay_in-requires
replay_in-requires c = let a = c.args in
    let ready = ((opens_as c.rules-rules.ensures c.in_default.ensures).ready refl) in (blank a.log.now ready (opens_clean a.bundle.now a.standing.now (opens_as c.rules-rules.ensures c.in_default.ensures) refl) (no_steps a.bundle.now c.not_empty.ensures c.if-not_empty.false), length-take-le _ _ (bytes_fit _ _ _ c.if-out-need.false) ∙ ap (λ (n : ℕ). length a.bundle.now + n * step_bytes) c.in-Ok.ensures.1, length-take-le _ _ (words-fit (ltb (length a.out.now) (length a.bundle.now + c.in-Ok.lines * step_bytes)) _ _ c.if-out-need.false) ∙ c.room-room.ensures.0)

pub returns : goal.returns
returns c = let a = c.args in
    let ready = ((opens_as c.rules-rules.ensures c.in_default.ensures).ready refl) in
    let none = no_steps a.bundle.now c.not_empty.ensures c.if-not_empty.false in
    let M = made_entered a.log.now ready (opens_clean a.bundle.now a.standing.now (opens_as c.rules-rules.ensures c.in_default.ensures) refl) none a.words.now c.room-room.ensures.0 (words-fit (ltb (length a.out.now) (length a.bundle.now + c.in-Ok.lines * step_bytes)) _ _ c.if-out-need.false) c.replay_in.ensures.by_design c.replay_in.ensures.by_design_2 in
    let E = replayed a.bundle.now a.standing.now a.log.now a.out.now a.words.now (opens_clean a.bundle.now a.standing.now (opens_as c.rules-rules.ensures c.in_default.ensures) refl) c.not_empty.ensures c.if-not_empty.false c.in-Ok.ensures.0
    (room_test a.bundle.now a.standing.now a.log.now (length a.out.now) (length a.words.now) c.in-Ok.ensures.1 c.room-room.ensures.0 ready.sizes) c.if-out-need.false M.answer
    (ap₂ (λ (x : List ℕ) (n : ℕ). x ++ drop n a.out.now) c.replay_in.ensures.out_after (ap (λ (n : ℕ). length a.bundle.now + n * step_bytes) c.in-Ok.ensures.1 ∙ sym (made-long _ a.bundle.now a.log.now ready.read none))) M.words in
    record { value = E.answer; out_after = E.bytes; words_after = E.words_left }
