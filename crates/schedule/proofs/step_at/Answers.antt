-- The four bytes of record i are the four fields of the step, each read by its own call.
use borrow.Author.Rules.{rules}
use Rattle.schedule.proofs.step_at.Goals as goal

pub returns : goal.returns
returns c = (cc, search rules)
