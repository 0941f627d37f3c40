-- The checks one after the other, each with the facts of those before it; a receipt and a move where none refuses.
use mathlib.Core.Path.{sym, ap, ◌∙◌, subst⁻¹}
use mathlib.Core.Bool.{not}
use Prim.Native.Nat.{◌+◌}
use native.Mathlib.Omega.{arith}
use Rattle.paper.proofs.StepLaws.{heard_message}
use Rattle.words.proofs.KeepLaws.{holds_more}
use Rattle.words.specs.Facts.{at_rest, in_step, Holds}
use Rattle.schedule.specs.Records.{meant}
use Rattle.step.specs.Step.{sized, moved_by}
use Rattle.step.proofs.KeptLaws.{holds-heard}
use Rattle.step.proofs.StepLaws.{fault-malformed, fault_away, fault_unmet, fault-none, named_by, arrives_by}
use Rattle.step.proofs.with_message.Goals as goal

pub returns-then-malformed : goal.returns-then-malformed
returns-then-malformed c = let a = c.args in
    let both = fault-malformed a.rules.sizes a.rules.ends.now a.rules.leasts.now a.w.now (meant a.x) c.requires.1 c.requires.2 c.malformed.ensures c.if-malformed.true in
    record { value = both.0; w_after = both.1 }

pub in_transit-requires : goal.in_transit-requires
in_transit-requires c = let a = c.args in
    let N = named_by a.rules.sizes a.rules.ends.now a.rules.leasts.now a.w.now (meant a.x) c.requires.1 c.requires.2 c.malformed.ensures c.if-malformed.false in
    (c.args.rules.bounded, record { board = c.requires.1.board; type = N.type }, record { below = N.source }, holds_more a.rules.sizes at_rest in_step a.w.now (omega arith) c.requires.0)

pub returns-then-not-in_transit : goal.returns-then-not-in_transit
returns-then-not-in_transit c = let a = c.args in
    let both = fault_away a.rules.sizes a.rules.ends.now a.rules.leasts.now a.w.now (meant a.x) c.requires.1 c.requires.2 c.malformed.ensures c.if-malformed.false (ap not c.in_transit.ensures) (ap not c.if-not-in_transit.true) in
    record { value = both.0; w_after = both.1 }

pub not_met-requires : goal.not_met-requires
not_met-requires c = let a = c.args in
    (c.requires.1.board, c.requires.1.rule, holds_more a.rules.sizes at_rest in_step a.w.now (omega arith) c.requires.0)

pub returns-then-not_met : goal.returns-then-not_met
returns-then-not_met c = let a = c.args in
    let A = arrives_by a.rules.sizes a.rules.ends.now a.rules.leasts.now a.w.now (meant a.x) c.requires.1 c.requires.2 c.malformed.ensures c.if-malformed.false (ap not c.in_transit.ensures) (ap not c.if-not-in_transit.false) in
    let both = fault_unmet a.rules.sizes a.rules.ends.now a.rules.leasts.now a.w.now (meant a.x) c.args.rules.bounded.types c.requires.0.fits A c.not_met.ensures c.if-not_met.true in
    record { value = both.0; w_after = both.1 }

pub hear-requires : goal.hear-requires
hear-requires c = let a = c.args in
    let N = named_by a.rules.sizes a.rules.ends.now a.rules.leasts.now a.w.now (meant a.x) c.requires.1 c.requires.2 c.malformed.ensures c.if-malformed.false in
    (c.args.rules.bounded, record { board = c.requires.1.board; type = N.type }, record { below = N.source }, holds_more a.rules.sizes at_rest in_step a.w.now (omega arith) c.requires.0)

pub move_on-requires : goal.move_on-requires
move_on-requires c = let a = c.args in
    let e = c.hear.ensures ∙ sym (heard_message a.rules.sizes.level (sized a.rules.sizes) a.w.now (meant a.x) c.requires.2) in
    (c.requires.1.board, c.requires.1.rule, subst⁻¹ (Holds a.rules.sizes in_step) e (holds_more a.rules.sizes (at_rest + 1) in_step _ (omega arith) (holds-heard a.rules.sizes a.w.now (meant a.x) at_rest c.requires.0)))

pub returns : goal.returns
returns c = let a = c.args in
    let A = arrives_by a.rules.sizes a.rules.ends.now a.rules.leasts.now a.w.now (meant a.x) c.requires.1 c.requires.2 c.malformed.ensures c.if-malformed.false (ap not c.in_transit.ensures) (ap not c.if-not-in_transit.false) in
    let e = c.hear.ensures ∙ sym (heard_message a.rules.sizes.level (sized a.rules.sizes) a.w.now (meant a.x) c.requires.2) in
    let both = fault-none a.rules.sizes a.rules.ends.now a.rules.leasts.now a.w.now (meant a.x) c.args.rules.bounded.types c.requires.0.fits A c.not_met.ensures c.if-not_met.false (c.move_on.ensures ∙ ap (moved_by a.rules.sizes a.rules.ends.now a.x.board a.x.rule) e) in
    record { value = both.0; w_after = both.1 }
