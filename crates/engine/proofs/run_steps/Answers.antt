-- After i turns the run is the run of what is left; a refused step and the end of the schedule are its two ends.
use mathlib.Core.Path.{refl}
use Prim.Native.Nat.{◌+◌, ◌*◌, ◌/◌}
use native.Mathlib.Omega.{arith}
use lib.ListN.{length}
use Rattle.words.specs.Facts.{at_rest}
use Rattle.words.proofs.KeepLaws.{holds_more}
use Rattle.fault.proofs.RefusalLaws.{some_number}
use Rattle.fault.specs.Refusals.{number_of}
use Rattle.engine.proofs.RunLaws.{so_far_none, so_far_more, ends-refused, ends_all}
use Rattle.engine.proofs.run_steps.Goals as goal

pub loop-i-init : goal.loop-i-init
loop-i-init c = let a = c.args in
    so_far_none a.rules.sizes a.rules.ends.now a.rules.leasts.now a.w.now a.steps.now c.requires.0 (length a.steps.now / 4) (omega (arith, c.requires.1.few)) c.requires.1.whole

pub step_at-requires : goal.step_at-requires
step_at-requires c = (omega (arith, c.loop-i-test.true, c.requires.1.few), omega (arith, c.loop-i-test.true))

pub step-requires : goal.step-requires
step-requires c = let a = c.args in
    holds_more a.rules.sizes (256 + 2 * c.loop-i.i) at_rest c.loop-i.w (omega (arith, c.loop-i-test.true, c.requires.1.few)) c.loop-i.invariant.holds

pub returns-in-Err : goal.returns-in-Err
returns-in-Err c = let a = c.args in
    let E = ends-refused a.rules.sizes a.rules.ends.now a.rules.leasts.now a.w.now a.steps.now c.requires.0 (length a.steps.now / 4) (omega (arith, c.requires.1.few)) c.requires.1.whole c.loop-i.i c.loop-i.w c.step.new.w (number_of c.in-Err.refusal) c.loop-i-test.true c.loop-i.invariant c.step_at.ensures.0 c.in-Err.ensures.by_design c.in-Err.ensures.by_design_2 c.in-Err.ensures.grown (some_number c.in-Err.refusal) in
    record { by_design = rw c.at.ensures E.answers; by_design_2 = E.leaves; holds = E.holds }

pub loop-i-preserved : goal.loop-i-preserved
loop-i-preserved c = let a = c.args in
    so_far_more a.rules.sizes a.rules.ends.now a.rules.leasts.now a.w.now a.steps.now c.requires.0 (length a.steps.now / 4) (omega (arith, c.requires.1.few)) c.requires.1.whole c.loop-i.i c.loop-i.w c.step.new.w 0 c.loop-i-test.true c.loop-i.invariant c.step_at.ensures.0 c.in_default.ensures.by_design c.in_default.ensures.by_design_2 c.in_default.ensures.grown refl

pub returns : goal.returns
returns c = let a = c.args in
    let E = ends_all a.rules.sizes a.rules.ends.now a.rules.leasts.now a.w.now a.steps.now c.requires.0 (length a.steps.now / 4) (omega (arith, c.requires.1.few)) c.requires.1.whole c.loop-i.i c.loop-i.w c.loop-i.auto.i-end c.loop-i-test.false c.loop-i.invariant in
    record { by_design = E.answers; by_design_2 = E.leaves; holds = E.holds }
