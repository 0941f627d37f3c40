-- The sum of the definition, and its test.
use mathlib.Core.Path.{ap}
use Prim.Native.Nat.{ℕ, ◌+◌}
use Rattle.fault.specs.Tests.{◌at_most◌}
use Rattle.step.proofs.may_stop.Goals as goal

pub returns : goal.returns
returns c = let s = c.args.s in ap (λ (n : ℕ). (n + 1 + s.faulty) at_most s.tolerated) c.stopped_count.ensures.0
