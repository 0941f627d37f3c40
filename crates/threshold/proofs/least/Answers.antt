-- The sum, or 0 in place of a negative one, divided and rounded up is the least count of the threshold: a negative sum's threshold is at most 0.
use mathlib.Core.Path.{ap, ◌∙◌}
use Rattle.threshold.specs.Threshold.{sum_of, threshold_of, least_of}
use Rattle.threshold.proofs.SizeLaws.{bits_back}
use Rattle.threshold.proofs.QuotientLaws.{least-divided}
use Rattle.threshold.proofs.least.Goals as goal

pub returns : goal.returns
unfolding threshold_of
returns c = let z = c.sum in
    c.divided.ensures ∙ least-divided (sum_of _ _ _) c.args.w.e c.requires.0 (c.at_least_zero.ensures.0 ∙ ap least_of (bits_back z.result z.type_inv ∙ z.ensures.0))
