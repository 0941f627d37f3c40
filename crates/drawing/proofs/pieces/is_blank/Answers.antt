-- The tests are those of `is_blank`.
use mathlib.Core.Path.{refl}
use Rattle.dot.specs.Text.{is_blank}
use Rattle.drawing.proofs.pieces.is_blank.Goals as goal

pub returns : goal.returns
unfolding is_blank
returns c = refl
