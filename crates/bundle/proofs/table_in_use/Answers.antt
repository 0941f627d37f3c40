-- By the length of the front: empty leaves the standing table, and any other is cut from the bundle's first bytes.
use mathlib.Core.Path.{sym}
use native.Mathlib.Omega.{arith}
use lib.Seq.{length-take-le}
use Rattle.bundle.proofs.BundleLaws.{use_standing, use_front}
use Rattle.bundle.proofs.table_in_use.Goals as goal

pub slice_bounds-result-end : goal.slice_bounds-result-end
slice_bounds-result-end c = sym (length-take-le _ _ (omega arith))

pub returns-then-n-eq0 : goal.returns-then-n-eq0
returns-then-n-eq0 c = search use_standing

pub returns-else-n-eq0 : goal.returns-else-n-eq0
returns-else-n-eq0 c = search use_front
