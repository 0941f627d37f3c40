-- Room for the rules is made, and the run is in it.
use Rattle.engine.proofs.run.Goals as goal

pub returns : goal.returns
returns c = record { value = c.run_with.ensures.value; lent_after = c.run_with.ensures.lent_after }
