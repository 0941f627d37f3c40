-- As many came as the bytes before `n`; each turn that goes on brings one more, and there is no room for more than all.
use Rattle.std.proofs.Common.{◌-◌, ◌≤◌, length}
use Rattle.report.proofs.read_input.Given as goal

abbrev pub invariant-loop-n : goal.invariant-loop-n
invariant-loop-n g l = l.n ≤ length l.input

abbrev pub decreases-loop-n : goal.decreases-loop-n
decreases-loop-n g l = length l.input - l.n
