-- Both ends are looked up and compared with the number of states, as in `no_state`.
use borrow.Author.Rules.{rules}
use Rattle.table.specs.Refusals.{no_state}
use Rattle.table.proofs.no_state.Goals as goal

pub states-n-requires : goal.states-n-requires
unfolding no_state
states-n-requires c = search rules

pub from-requires : goal.from-requires
unfolding no_state
from-requires c = search rules

pub to-requires : goal.to-requires
unfolding no_state
to-requires c = search rules

pub returns : goal.returns
unfolding no_state
returns c = cc
