-- The loop passes the types that are met; the first that is not ends it.
use mathlib.Core.Path.{ap₂}
use Prim.Native.Nat.{◌+◌}
use borrow.Author.Tests.{lt-ltb, le-ltb}
use Rattle.senders.proofs.TallyLaws.{every-none, every_more, every-failed, every_held}
use Rattle.step.proofs.StepLaws.{below-not}
use Rattle.step.proofs.not_met.Goals as goal

pub loop-i-init : goal.loop-i-init
loop-i-init c = every-none _

pub count-requires : goal.count-requires
count-requires c = (c.args.rules.bounded, record { board = c.requires.0; type = c.loop-i-test.true }, c.requires.2)

pub returns-then-count-least : goal.returns-then-count-least
returns-then-count-least c = every-failed _ (below-not (ap₂ ◌+◌ c.count.ensures.0 c.gain.ensures.0) c.least.ensures.0) (lt-ltb _ _ c.if-count-least.true) c.loop-i-test.true

pub loop-i-preserved : goal.loop-i-preserved
loop-i-preserved c = every_more _ c.loop-i.i c.loop-i.invariant (below-not (ap₂ ◌+◌ c.count.ensures.0 c.gain.ensures.0) c.least.ensures.0) (le-ltb _ _ c.if-count-least.false)

pub returns : goal.returns
returns c = every_held _ c.loop-i.invariant c.loop-i.auto.i-end c.loop-i-test.false
