-- A mask as a set: the types that are in the first and missing from the second are counted by `missing_count`.
use Rattle.table.proofs.unsent.Goals as goal

pub returns : goal.returns
returns c = cc
