-- The test is the definition.
use mathlib.Core.Path.{refl}
use Rattle.bundle.specs.Refusals.{no_trailer}
use Rattle.bundle.proofs.no_trailer.Goals as goal

pub returns : goal.returns
unfolding no_trailer
returns c = refl
