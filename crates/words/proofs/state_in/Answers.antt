-- The states are the first words.
use mathlib.Core.Path.{refl}
use borrow.Author.Rules.{rules}
use Rattle.paper.specs.Words.{size, state}
use Rattle.words.proofs.state_in.Goals as goal

pub offset_bounds-w-p : goal.offset_bounds-w-p
unfolding size state
offset_bounds-w-p c = search rules

pub bounds-w-p : goal.bounds-w-p
unfolding size state
bounds-w-p c = search rules

pub returns : goal.returns
unfolding size state
returns c = refl
