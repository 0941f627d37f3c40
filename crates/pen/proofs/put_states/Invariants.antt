-- The loop keeps that the lines of the states still left, put from here on, come to all lines from n on.
use Prim.Native.Nat.{◌+◌, ◌*◌, ◌-◌, ◌≤◌}
use Rattle.table.specs.Table.{states_of}
use Rattle.dot.specs.Text.{states_text}
use Rattle.pen.specs.Pen.{alone, most_state_text}
use Rattle.ink.proofs.InkLaws.{RestPut}
use Rattle.pen.proofs.put_states.Given as goal

abbrev pub invariant-loop-i : goal.invariant-loop-i
invariant-loop-i l = (l.m ≤ l.n + most_state_text * l.i) × RestPut l.initial.out l.n (alone (states_text (states_of l.table) l.table 0)) l.out l.m (alone (states_text (states_of l.table - l.i) l.table l.i))
