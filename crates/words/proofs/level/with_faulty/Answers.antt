-- The sum fits, since both numbers are bounded.
use native.Mathlib.Omega.{arith}
use Rattle.words.proofs.level.with_faulty.Goals as goal

pub returns : goal.returns
returns c = omega arith
