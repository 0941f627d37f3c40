-- The plan of an arrow and the name that it leads to; both numbers are bytes and are put one after the other.
use mathlib.Core.Path.{ap}
use Rattle.drawing.specs.declared.Cursor.{Cursor}
use native.Mathlib.Omega.{arith}
use Rattle.drawing.proofs.LineLaws.{arrow_read}
use Rattle.drawing.proofs.lines.ends.Goals as goal

pub follow-a-requires : goal.follow-a-requires
follow-a-requires c = omega (arith, ap (λ (z : Cursor). z.place) c.stand.ensures, c.requires.0)

pub returns : goal.returns
returns c = arrow_read _ c.stand.ensures c.follow-a.ensures c.number-to.ensures c.byte.ensures c.put-m.ensures c.byte-2.ensures c.put.ensures.1
