-- The initial flag is bit 0 of the state's flags.
use Rattle.table.proofs.initial.Goals as goal

pub returns : goal.returns
returns c = cc
