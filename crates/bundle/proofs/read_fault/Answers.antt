-- The table in use is handed to `fault_with`, as in the definition.
use Rattle.bundle.proofs.read_fault.Goals as goal

pub returns : goal.returns
returns c = cc
