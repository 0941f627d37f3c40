-- With a message no rule past the table's is taken; any other goes by its rule.
use mathlib.Core.Path.{refl}
use native.Mathlib.Omega.{arith}
use borrow.Author.Tests.{lt-leb, eq-eqb, ne_eqb}
use Rattle.schedule.specs.Records.{meant}
use Rattle.step.proofs.StepLaws.{below, no_stop, board_in_room, fault-rule, fault-state, leaves_by, by_rule_lem, stop-heard}
use Rattle.step.proofs.message_step.Goals as goal

pub returns-then-x-eq-STOP : goal.returns-then-x-eq-STOP
returns-then-x-eq-STOP c = let a = c.args in
    let both = stop-heard a.rules.sizes a.rules.ends.now a.rules.leasts.now a.w.now (meant a.x) c.requires.1 (eq-eqb a.x.rule 254 c.if-x-eq-STOP.true) c.requires.2 in
    record { value = both.0; w_after = both.1 }

pub returns-else-x-eq-STOP : goal.returns-else-x-eq-STOP
returns-else-x-eq-STOP c = let a = c.args in
    let both = by_rule_lem a.rules.sizes a.rules.ends.now a.rules.leasts.now a.w.now (meant a.x) c.requires.1 (ne_eqb a.x.rule 254 c.if-x-eq-STOP.false) (fault-rule a.rules.sizes a.rules.ends.now a.rules.leasts.now a.w.now (meant a.x) refl (lt-leb _ _ c.requires.1.board) c.at_least.ensures c.if-at_least.true) in
    record { value = both.0; w_after = both.1 }

pub other_state-requires : goal.other_state-requires
other_state-requires c = let a = c.args in
    (omega (arith, (below a.x.rule a.rules.sizes.rules c.at_least.ensures c.if-at_least.false), c.args.rules.bounded.rules), omega (arith, c.requires.0.fits, board_in_room a.rules.sizes a.x.board c.requires.1.board))

pub returns-then-other_state : goal.returns-then-other_state
returns-then-other_state c = let a = c.args in
    let both = by_rule_lem a.rules.sizes a.rules.ends.now a.rules.leasts.now a.w.now (meant a.x) c.requires.1 (no_stop a.rules.sizes (meant a.x) c.args.rules.bounded.rules (below a.x.rule a.rules.sizes.rules c.at_least.ensures c.if-at_least.false))
    (fault-state a.rules.sizes a.rules.ends.now a.rules.leasts.now a.w.now (meant a.x) refl (lt-leb _ _ c.requires.1.board) c.at_least.ensures c.if-at_least.false c.other_state.ensures c.if-other_state.true) in
    record { value = both.0; w_after = both.1 }

pub with_message-requires : goal.with_message-requires
with_message-requires c = let a = c.args in
    (c.requires.0, leaves_by a.rules.sizes a.rules.ends.now a.rules.leasts.now a.w.now (meant a.x) refl (lt-leb _ _ c.requires.1.board) c.at_least.ensures c.if-at_least.false c.other_state.ensures c.if-other_state.false, c.requires.2)

pub returns : goal.returns
returns c = let a = c.args in
    let both = by_rule_lem a.rules.sizes a.rules.ends.now a.rules.leasts.now a.w.now (meant a.x) c.requires.1 (no_stop a.rules.sizes (meant a.x) c.args.rules.bounded.rules (below a.x.rule a.rules.sizes.rules c.at_least.ensures c.if-at_least.false)) (c.with_message.ensures.value, c.with_message.ensures.w_after) in
    record { value = both.0; w_after = both.1 }
