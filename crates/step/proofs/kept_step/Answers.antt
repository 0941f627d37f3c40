-- The two checks that all steps have; then a step without a message and one with a message go their own ways.
use mathlib.Core.Path.{sym, ◌∙◌}
use Rattle.schedule.specs.Records.{meant}
use Rattle.step.proofs.StepLaws.{below, no_board, is-asleep}
use Rattle.step.proofs.kept_step.Goals as goal

pub returns-then-at_least : goal.returns-then-at_least
returns-then-at_least c = let a = c.args in
    let both = no_board a.rules.sizes a.rules.ends.now a.rules.leasts.now a.w.now (meant a.x) c.at_least.ensures c.if-at_least.true in
    record { value = both.0; w_after = both.1 }

pub is_stopped-requires : goal.is_stopped-requires
is_stopped-requires c = let a = c.args in
    (c.args.rules.bounded, below a.x.board a.rules.sizes.correct c.at_least.ensures c.if-at_least.false, c.requires.fits)

pub returns-then-is_stopped : goal.returns-then-is_stopped
returns-then-is_stopped c = let a = c.args in
    let both = is-asleep a.rules.sizes a.rules.ends.now a.rules.leasts.now a.w.now (meant a.x) c.at_least.ensures c.if-at_least.false c.is_stopped.ensures c.if-is_stopped.true in
    record { value = both.0; w_after = both.1 }

pub silent_step-requires : goal.silent_step-requires
silent_step-requires c = let a = c.args in
    (c.requires, record { board = below a.x.board a.rules.sizes.correct c.at_least.ensures c.if-at_least.false; awake = sym c.is_stopped.ensures ∙ c.if-is_stopped.false }, sym c.silent.ensures ∙ c.if-silent.true)

pub message_step-requires : goal.message_step-requires
message_step-requires c = let a = c.args in
    (c.requires, record { board = below a.x.board a.rules.sizes.correct c.at_least.ensures c.if-at_least.false; awake = sym c.is_stopped.ensures ∙ c.if-is_stopped.false }, sym c.silent.ensures ∙ c.if-silent.false)
