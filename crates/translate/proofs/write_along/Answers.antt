-- After i turns the first i records have their lowest sources, and the words are those after the first i of the new steps.
use mathlib.Core.Path.{ap, ◌∙◌}
use Prim.Native.Nat.{◌+◌, ◌*◌, ◌/◌}
use native.Mathlib.Omega.{arith}
use lib.ListN.{length, length-set}
use Rattle.words.specs.Facts.{at_rest}
use Rattle.words.proofs.KeepLaws.{holds_more}
use Rattle.translate.proofs.LoopLaws.{alongs_acceptable, alongs_more, alongs_all}
use Rattle.translate.proofs.write_along.Goals as goal

pub source_at-requires : goal.source_at-requires
source_at-requires c = let a = c.args in
    let t = c.loop-i-test.true in
    (holds_more a.rules.sizes (256 + 2 * c.loop-i.i) at_rest c.loop-i.w (omega (arith, t, c.requires.1.few)) c.loop-i.invariant.0, omega (arith, t, c.requires.1.few), omega (arith, t, c.loop-i.invariant.1), alongs_acceptable a.rules.sizes a.rules.ends.now a.w.now (length a.steps.now / 4) a.steps.now c.requires.1.whole c.loop-i.invariant.2 t c.requires.2)

pub loop-i-preserved : goal.loop-i-preserved
loop-i-preserved c = let a = c.args in
    let t = c.loop-i-test.true in
    let i = c.loop-i.i in
    (holds_more a.rules.sizes (256 + 2 * i + 2) (256 + 2 * (i + 1)) _ (omega arith) (c.source_at.ensures.grown (256 + 2 * i) (omega arith) c.loop-i.invariant.0), ap length c.source_at.ensures.steps_after ∙ length-set c.loop-i.steps (i * 4 + 3) _ ∙ c.loop-i.invariant.1, alongs_more a.rules.sizes a.rules.ends.now a.w.now (length a.steps.now / 4) a.steps.now c.requires.1.whole c.loop-i.invariant.2 t c.source_at.ensures.by_ends c.source_at.ensures.steps_after)

pub returns : goal.returns
returns c = let a = c.args in
    alongs_all a.rules.sizes a.rules.ends.now a.w.now (length a.steps.now / 4) a.steps.now c.requires.1.whole c.loop-i.invariant.2 c.loop-i.auto.i-end c.loop-i-test.false
