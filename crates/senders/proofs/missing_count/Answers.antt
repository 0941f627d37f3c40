-- A sender below c is in `set & !other` just if it is in the set and missing from the other, so counting one counts the other.
use mathlib.Core.Path.{◌∙◌}
use native.Mathlib.Omega.{arith}
use Rattle.senders.proofs.TallyLaws.{count_same}
use Rattle.senders.proofs.WordLaws.{mem-missing}
use Rattle.senders.proofs.missing_count.Goals as goal

pub returns : goal.returns
returns c = (
  c.correct_count.ensures.0 ∙ count_same c.args.c _ _ (λ q h. mem-missing c.args.set c.args.other q c.ranges.other.fits (omega arith)),
  c.correct_count.ensures.1,
)
