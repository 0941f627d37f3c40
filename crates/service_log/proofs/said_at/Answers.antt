-- Board and rule come first, each after its word; what the rest of the line tells is then what the line tells.
use Rattle.service_log.proofs.LineLaws.{no_board, no_rule, whole-line}
use Rattle.service_log.proofs.said_at.Goals as goal

pub returns-in_err-board : goal.returns-in_err-board
returns-in_err-board c = rw c.from_residual.ensures (no_board c.args.log.now c.args.at c.in_err-board.ensures)

pub returns-in_err-rule : goal.returns-in_err-rule
returns-in_err-rule c = rw c.from_residual-in_err-rule.ensures (no_rule c.in_ok-board.ensures c.in_err-rule.ensures)

pub returns : goal.returns
returns c = whole-line c.in_ok-board.ensures _ c.in_ok-rule.ensures c.rest_of_line.ensures
