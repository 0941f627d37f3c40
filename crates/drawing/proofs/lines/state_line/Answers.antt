-- The label's two numbers are the state's bytes, put after those made before; reading goes on where the label's plan ends.
use mathlib.Core.Path.{ap}
use native.Mathlib.Omega.{arith}
use borrow.Author.Rules.{rules}
use Rattle.drawing.specs.declared.Cursor.{Cursor}
use Rattle.drawing.proofs.LineLaws.{line_refused, state-read}
use Rattle.drawing.proofs.lines.state_line.Goals as goal

pub label-c-requires : goal.label-c-requires
label-c-requires c = (omega (arith, ap (λ (z : Cursor). z.place) c.stand.ensures, c.requires.0), omega arith, search rules, omega (arith, c.requires.2.bytes_fit, c.requires.1, c.requires.0, c.well_formed.0.1))

pub returns-then-c : goal.returns-then-c
returns-then-c c = let r = state-read _ _ c.requires.1 c.requires.2 c.stand.ensures c.of_state.ensures.0 c.label-c.ensures in line_refused c.args.text.now r.onward r.within (r.fails c.if-c.true) c.no_drawing.ensures

pub returns : goal.returns
returns c = (state-read _ _ c.requires.1 c.requires.2 c.stand.ensures c.of_state.ensures.0 c.label-c.ensures).stands_there c.if-c.false
