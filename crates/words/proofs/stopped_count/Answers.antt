-- The set's word is counted.
use mathlib.Core.Path.{ap, ◌∙◌}
use Rattle.senders.specs.Set.{correct_count}
use Rattle.words.proofs.stopped_count.Goals as goal

pub returns : goal.returns
returns c = (c.correct_count.ensures.0 ∙ ap (correct_count c.args.s.correct) c.stopped_in.ensures, c.correct_count.ensures.1)
