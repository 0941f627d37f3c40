-- A product of two numbers below 65,536 is at most 65,535 · 65,535, which is below 2 ^ 32.
use mathlib.Core.Path.{refl}
use Prim.Native.Nat.{ℕ, ◌*◌, ◌≤◌}
use native.Mathlib.Nat.{mul-le-mul}
use native.Mathlib.Omega.{arith}
use Rattle.fault.proofs.times.Goals as goal

bound : (a b : ℕ) → a ≤ 65535 → b ≤ 65535 → a * b ≤ 65535 * 65535
bound a b h k = mul-le-mul {n₂ = 65535} {m₂ = 65535} h k

pub overflow_mul-result : goal.overflow_mul-result
overflow_mul-result c = omega (arith, bound c.args.a c.args.b (omega arith) (omega arith))

pub returns : goal.returns
returns c = (refl, omega (arith, bound c.args.a c.args.b (omega arith) (omega arith)))
