-- The word and the kept state are compared as they stand.
use borrow.Author.Rules.{rules}
use Rattle.paper.specs.Words.{state}
use Rattle.step.proofs.other_state.Goals as goal

pub offset_bounds-w-p : goal.offset_bounds-w-p
unfolding state
offset_bounds-w-p c = search rules

pub bounds-w-p : goal.bounds-w-p
unfolding state
bounds-w-p c = search rules

pub from-requires : goal.from-requires
unfolding state
from-requires c = search rules

pub returns : goal.returns
unfolding state
returns c = cc
