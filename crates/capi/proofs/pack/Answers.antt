-- The three numbers fit their bits, so that no sum is over 64 bits.
use native.Mathlib.Omega.{arith}
use Rattle.capi.proofs.pack.Goals as goal

pub returns : goal.returns
returns c = omega arith
