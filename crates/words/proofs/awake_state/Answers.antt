-- The test of the definition; its two answers are the two ends.
use Rattle.fault.specs.Fault.{◌if◌else◌}
use Rattle.words.proofs.awake_state.Goals as goal

pub returns-then-is_stopped : goal.returns-then-is_stopped
unfolding ◌if◌else◌
returns-then-is_stopped c = rw (← c.is_stopped.ensures, c.if-is_stopped.true)

pub returns : goal.returns
unfolding ◌if◌else◌
returns c = rw (← c.is_stopped.ensures, c.if-is_stopped.false) c.state_in.ensures
