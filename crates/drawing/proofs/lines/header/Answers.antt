-- Three pieces of plan with the two numbers between them are the header's plan; nothing of the records is read yet.
use mathlib.Core.Path.{ap}
use native.Mathlib.Omega.{arith}
use Rattle.drawing.specs.declared.Cursor.{Cursor}
use Rattle.drawing.proofs.LineLaws.{header_read, header_fails}
use Rattle.drawing.proofs.lines.header.Goals as goal

pub follow-a-requires : goal.follow-a-requires
follow-a-requires c = omega (arith, ap (λ (z : Cursor). z.place) c.stand.ensures)

pub returns-then-c : goal.returns-then-c
returns-then-c c = header_fails c.stand.ensures c.follow-a.ensures c.number-types.ensures c.follow-b.ensures c.number-factor.ensures c.follow-c.ensures c.if-c.true c.no_drawing.ensures

pub returns : goal.returns
returns c = header_read c.stand.ensures c.follow-a.ensures c.number-types.ensures c.follow-b.ensures c.number-factor.ensures c.follow-c.ensures c.if-c.false
