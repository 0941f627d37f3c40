-- A stop has no message, so that its record stays. Else a receipt from the lowest source, then a move: the step with that source, by the kept ends and
-- so by every design that they stand for.
use mathlib.Core.Path.{refl, ap, ◌∙◌, subst, subst⁻¹}
use Prim.Native.Nat.{◌+◌, ◌*◌}
use native.Mathlib.Omega.{arith}
use lib.ListN.{set}
use Rattle.paper.specs.Paper.{Step}
use Rattle.schedule.specs.Records.{meant, record_at}
use Rattle.words.specs.Facts.{at_rest, in_step, Holds, Grown}
use Rattle.words.proofs.KeepLaws.{holds_more}
use Rattle.step.specs.Step.{Formed}
use Rattle.step.proofs.KeptLaws.{holds-heard, grown-taken}
use Rattle.translate.proofs.StepLaws.{lowered, lowered_is, lowered_moves, lowered_board, lowered_formed, lowered_steps, stop_unnamed, stop-steps, stop-grown}
use Rattle.translate.proofs.source_at.Goals as goal

pub stop-requires : goal.stop-requires
stop-requires c = let a = c.args in
    (c.args.rules.bounded, omega (arith, lowered_board a.rules.sizes a.w.now (record_at a.steps.now a.i) c.requires.3 c.step_at-x.ensures.0), c.requires.0.fits)

pub returns-then-x-eq-STOP : goal.returns-then-x-eq-STOP
returns-then-x-eq-STOP c = let a = c.args in
    let e = c.step_at-x.ensures.0 in
    let h = c.if-x-eq-STOP.true in record { by_ends = stop-steps a.rules.sizes a.w.now a.steps.now a.i c.args.rules.bounded c.requires.3 e h c.stop.ensures a.rules.ends.now; grown = stop-grown a.rules.sizes a.w.now a.steps.now a.i c.args.rules.bounded c.requires.3 e h c.stop.ensures; steps_after = stop_unnamed a.rules.sizes a.w.now a.steps.now a.i c.args.rules.bounded c.requires.3 e h }

pub hear_lowest-requires : goal.hear_lowest-requires
hear_lowest-requires c = let a = c.args in
    let x = meant c.step_at-x.result in
    let e = c.step_at-x.ensures.0 in
    let F = lowered_formed a.rules.sizes a.w.now (record_at a.steps.now a.i) c.requires.3 e c.if-x-eq-STOP.false in
    (c.args.rules.bounded, holds_more a.rules.sizes at_rest in_step a.w.now (omega arith) c.requires.0, c.requires.1, c.requires.2, e, subst (Formed a.rules.sizes) (lowered_is a.rules.sizes a.w.now x refl) F)

pub move_on-requires : goal.move_on-requires
move_on-requires c = let a = c.args in
    let F = lowered_formed a.rules.sizes a.w.now (record_at a.steps.now a.i) c.requires.3 c.step_at-x.ensures.0 c.if-x-eq-STOP.false in
    (F.board, F.rule, subst⁻¹ (Holds a.rules.sizes in_step) c.hear_lowest.ensures.w_after (holds_more a.rules.sizes (at_rest + 1) in_step _ (omega arith) (holds-heard a.rules.sizes a.w.now _ at_rest c.requires.0)))

pub returns : goal.returns
returns c = let a = c.args in
    let x = meant c.step_at-x.result in
    let e = c.step_at-x.ensures.0 in
    let F = lowered_formed a.rules.sizes a.w.now (record_at a.steps.now a.i) c.requires.3 e c.if-x-eq-STOP.false in
    let g = lowered_moves a.rules.sizes a.rules.ends.now a.w.now x c.hear_lowest.ensures.w_after c.move_on.ensures in record { by_ends = lowered_steps a.rules.sizes a.rules.ends.now a.w.now (record_at a.steps.now a.i) e c.if-x-eq-STOP.false F.rule g; grown = subst⁻¹ (Grown a.rules.sizes a.w.now) g (grown-taken a.rules.sizes a.rules.ends.now a.w.now (lowered a.rules.sizes a.w.now x) (omega (arith, a.rules.bytes (x.rule * 4 + 1)))); steps_after = c.hear_lowest.ensures.steps_after ∙ ap (λ (y : Step). set a.steps.now (a.i * 4 + 3) y.source) (lowered_is a.rules.sizes a.w.now (record_at a.steps.now a.i) e) }
