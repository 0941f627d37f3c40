-- Two numbers of size at most 20,000 have a sum far below 2 ^ 63, so the machine's sum is that over the integers.
use mathlib.Core.Path.{refl}
use native.Mathlib.Omega.{arith}
use mir.Facts.{to_z-of_z}
use Rattle.threshold.proofs.SizeLaws.{mag_add}
use Rattle.threshold.proofs.plus.Goals as goal

pub overflow_add-result : goal.overflow_add-result
overflow_add-result c = rw (to_z-of_z c.ranges.y, to_z-of_z c.ranges.z) (record { sfits = omega (arith, mag_add c.args.y c.args.z) })

pub returns : goal.returns
returns c = rw (to_z-of_z (overflow_add-result c), to_z-of_z c.ranges.y, to_z-of_z c.ranges.z) (refl, mag_add c.args.y c.args.z)
