-- The group is as long as the table says.
use mathlib.Core.Path.{ap}
use Prim.Native.Nat.{ℕ}
use native.Mathlib.Omega.{arith}
use Rattle.dot.proofs.of_rule.Goals as goal

pub returns : goal.returns
returns c = (ap (λ (g : ℕ). record { group = g; signed = 3 }) c.type_bytes.ensures.0, omega arith)
