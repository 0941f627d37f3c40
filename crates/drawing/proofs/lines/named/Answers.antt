-- The byte after the name decides: a bracket where the state is the next and no rule came, a minus for a rule, and with any other no drawing goes on.
use native.Mathlib.Omega.{arith}
use Rattle.drawing.proofs.LineLaws.{kind-there, kind-state, minus-there, kind-rule, kind-fails, line_refused}
use Rattle.drawing.proofs.lines.named.Goals as goal

pub state_line-requires : goal.state_line-requires
state_line-requires c = (kind-there _ c.args.g _ c.args.v c.peek-x.ensures.0 c.if-x-v.true, omega (arith, c.requires.1), search kind-state)

pub rule_line-requires : goal.rule_line-requires
rule_line-requires c = (minus-there _ _ c.peek-x.ensures.0 c.if-x-eq45.true, omega (arith, c.requires.1), c.requires.2, search kind-rule)

pub returns : goal.returns
returns c = line_refused c.args.text.now (omega (arith, c.requires.1)) c.requires.0 (kind-fails _ _ c.requires.0 c.requires.3 c.peek-x.ensures.0 c.if-x-v.false c.if-x-eq45.false) c.no_drawing.ensures
