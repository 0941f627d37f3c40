-- Each piece goes on where the one before it ended; the first that is missing makes it a line of another shape.
use native.Mathlib.Omega.{arith}
use Rattle.service_log.proofs.LineLaws.{silent-line, no_type, no_source, no_feed, heard-line}
use Rattle.service_log.proofs.rest_of_line.Goals as goal

pub returns-then-peek-eq10 : goal.returns-then-peek-eq10
returns-then-peek-eq10 c = silent-line _ _ _ _ c.requires.1 c.requires.2 c.peek.ensures.0 c.if-peek-eq10.true

pub returns-in_err-mtype : goal.returns-in_err-mtype
returns-in_err-mtype c = rw c.from_residual.ensures (no_type _ _ _ _ c.peek.ensures.0 c.if-peek-eq10.false c.in_err-mtype.ensures)

pub returns-in_err-source : goal.returns-in_err-source
returns-in_err-source c = rw c.from_residual-in_err-source.ensures (no_source _ _ _ _ c.peek.ensures.0 c.if-peek-eq10.false c.in_ok-mtype.ensures c.in_err-source.ensures)

pub returns-then-peek-ne10 : goal.returns-then-peek-ne10
returns-then-peek-ne10 c = no_feed _ _ _ _ c.peek.ensures.0 c.if-peek-eq10.false c.in_ok-mtype.ensures c.in_ok-source.ensures c.peek-2.ensures.0 (λ z. omega (arith, z, c.if-peek-ne10.true))

pub returns : goal.returns
returns c = heard-line _ _ _ _ c.peek.ensures.0 c.if-peek-eq10.false c.in_ok-mtype.ensures c.in_ok-source.ensures c.peek-2.ensures.0 c.requires.1 c.requires.2 c.if-peek-ne10.false
