-- After the blanks of the gap a line begins with a bracket, which ends the drawing, or with a name. Where the name is not read, no drawing goes on.
use mathlib.Core.Path.{ap}
use Rattle.drawing.specs.declared.Cursor.{Cursor}
use native.Mathlib.Omega.{arith}
use Rattle.drawing.proofs.LineLaws.{bracket_there, line-ends, line-closed, named-fails, named-goes, named-further}
use Rattle.drawing.proofs.lines.line.Goals as goal

pub end-requires : goal.end-requires
end-requires c = (bracket_there _ _ c.peek.ensures.0 c.if-peek-eq125.true, omega (arith, c.skip-at.ensures.onward))

pub returns-then-peek-eq125 : goal.returns-then-peek-eq125
returns-then-peek-eq125 c = let k = c.skip-at.ensures in
    line-closed _ (omega (arith, k.onward)) (line-ends c.requires.2 c.requires.1 k c.peek.ensures.0 c.if-peek-eq125.true) c.end.ensures

pub follow-s-requires : goal.follow-s-requires
follow-s-requires c = omega (arith, ap (λ (z : Cursor). z.place) c.stand.ensures, c.skip-at.ensures.within)

pub returns-then-c : goal.returns-then-c
returns-then-c c = named-fails c.requires.2 c.requires.1 c.skip-at.ensures c.peek.ensures.0 c.if-peek-eq125.false c.stand.ensures c.follow-s.ensures c.number-name.ensures c.follow-c.ensures c.if-c.true c.no_drawing.ensures

pub named-requires : goal.named-requires
named-requires c = (
  c.follow-c.ensures.within,
  named-further c.skip-at.ensures c.stand.ensures c.follow-s.ensures c.number-name.ensures c.follow-c.ensures c.if-c.false,
  c.number-name.ensures.small,
  named-goes c.requires.2 c.requires.1 c.skip-at.ensures c.peek.ensures.0 c.if-peek-eq125.false c.stand.ensures c.follow-s.ensures c.number-name.ensures c.follow-c.ensures c.if-c.false,
)
