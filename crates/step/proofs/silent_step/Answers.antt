-- A rule past the table's is a stop or none; any other goes by its rule.
use mathlib.Core.Path.{refl}
use native.Mathlib.Omega.{arith}
use borrow.Author.Tests.{lt-leb}
use Rattle.schedule.specs.Records.{meant}
use Rattle.step.proofs.StepLaws.{below, at-or-past, no_stop, board_in_room, fault-state, leaves_by, by_rule_lem}
use Rattle.step.proofs.silent_step.Goals as goal

pub past_rules-requires : goal.past_rules-requires
past_rules-requires c = let a = c.args in
    (c.requires.0, c.requires.1, c.requires.2, at-or-past a.x.rule a.rules.sizes.rules c.at_least.ensures c.if-at_least.true)

pub other_state-requires : goal.other_state-requires
other_state-requires c = let a = c.args in
    (omega (arith, (below a.x.rule a.rules.sizes.rules c.at_least.ensures c.if-at_least.false), c.args.rules.bounded.rules), omega (arith, c.requires.0.fits, board_in_room a.rules.sizes a.x.board c.requires.1.board))

pub returns-then-other_state : goal.returns-then-other_state
returns-then-other_state c = let a = c.args in
    let both = by_rule_lem a.rules.sizes a.rules.ends.now a.rules.leasts.now a.w.now (meant a.x) c.requires.1 (no_stop a.rules.sizes (meant a.x) c.args.rules.bounded.rules (below a.x.rule a.rules.sizes.rules c.at_least.ensures c.if-at_least.false))
    (fault-state a.rules.sizes a.rules.ends.now a.rules.leasts.now a.w.now (meant a.x) refl (lt-leb _ _ c.requires.1.board) c.at_least.ensures c.if-at_least.false c.other_state.ensures c.if-other_state.true) in
    record { value = both.0; w_after = both.1 }

pub without_message-requires : goal.without_message-requires
without_message-requires c = let a = c.args in
    (c.requires.0, leaves_by a.rules.sizes a.rules.ends.now a.rules.leasts.now a.w.now (meant a.x) refl (lt-leb _ _ c.requires.1.board) c.at_least.ensures c.if-at_least.false c.other_state.ensures c.if-other_state.false, c.requires.2)

pub returns : goal.returns
returns c = let a = c.args in
    let both = by_rule_lem a.rules.sizes a.rules.ends.now a.rules.leasts.now a.w.now (meant a.x) c.requires.1 (no_stop a.rules.sizes (meant a.x) c.args.rules.bounded.rules (below a.x.rule a.rules.sizes.rules c.at_least.ensures c.if-at_least.false)) (c.without_message.ensures.value, c.without_message.ensures.w_after) in
    record { value = both.0; w_after = both.1 }
