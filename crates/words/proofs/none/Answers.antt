-- Nothing is within every bound.
use mathlib.Core.Path.{refl}
use native.Mathlib.Omega.{arith}
use Rattle.paper.specs.Form.{wide}
use Rattle.words.proofs.none.Goals as goal

pub returns : goal.returns
unfolding wide
returns c = record { bounded = record { boards = omega arith; types = omega arith; rules = omega arith; wide = refl; row = refl }; empty = refl }
