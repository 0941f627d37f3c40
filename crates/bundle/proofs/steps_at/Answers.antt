-- The steps stand after the front and the start bytes, and reach to the trailer.
use native.Mathlib.Omega.{arith}
use Rattle.bundle.proofs.steps_at.Goals as goal

pub returns : goal.returns
returns c = (omega arith, omega arith)
