-- The larger of the number and 0 is the least count; it is small, so that its bits say it.
use mathlib.Core.Path.{◌≡◌, ◌∙◌}
use lib.IntN.{pos}
use mir.Facts.{to_z-of_z}
use mir.Syntax.{w64}
use mir.Val.{to_z, of_z}
use Rattle.std.specs.Int.{int_max}
use Rattle.threshold.proofs.LeastLaws.{least-max}
use Rattle.threshold.proofs.SizeLaws.{bits_back}
use Rattle.threshold.proofs.at_least_zero.Goals as goal

pub returns : goal.returns
returns c = let z = c.args.z in
    let e : to_z w64 (of_z w64 c.max.result) ≡ int_max z (pos 0) =
    bits_back c.max.result c.max.type_inv ∙ rw (to_z-of_z c.ranges.z) at c.max.ensures.value in
    rw e (least-max z c.requires)
