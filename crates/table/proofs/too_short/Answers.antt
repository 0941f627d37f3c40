-- The test is the definition.
use mathlib.Core.Path.{refl}
use Rattle.table.specs.Refusals.{too_short}
use Rattle.table.proofs.too_short.Goals as goal

pub returns : goal.returns
unfolding too_short
returns c = refl
