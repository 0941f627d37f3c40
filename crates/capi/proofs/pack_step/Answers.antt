-- Four numbers below 256 stand side by side from bit 32, so that no sum is over 64 bits.
use native.Mathlib.Omega.{arith}
use Rattle.capi.proofs.pack_step.Goals as goal

pub returns : goal.returns
returns c = omega arith
