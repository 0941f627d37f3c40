-- The loop keeps that the lines of the rules still left, put from here on, come to all lines from n on.
use Prim.Native.Nat.{◌+◌, ◌*◌, ◌-◌, ◌≤◌}
use Rattle.table.specs.Table.{states_of, rules_of, types_byte, rule_at, state_bytes}
use Rattle.dot.specs.Text.{rules_text}
use Rattle.pen.specs.Pen.{alone, most_rule_text}
use Rattle.ink.proofs.InkLaws.{RestPut}
use Rattle.pen.proofs.put_rules.Given as goal

abbrev pub invariant-loop-k : goal.invariant-loop-k
invariant-loop-k l = (l.m ≤ l.n + most_rule_text * l.k) × RestPut l.initial.out l.n (alone (rules_text (rules_of l.table) (types_byte l.table) l.table (state_bytes * states_of l.table))) l.out l.m (alone (rules_text (rules_of l.table - l.k) (types_byte l.table) l.table (rule_at l.table l.k)))
