-- The loop keeps that the records of the rules still left, put from here on, come to all records from n on. Each takes at most 1,024 bytes, and a table has at most 64.
use Prim.Native.Nat.{◌+◌, ◌*◌, ◌-◌, ◌≤◌}
use Rattle.table.specs.Table.{rules_of}
use Rattle.ink.proofs.InkLaws.{RestPut}
use Rattle.editions.specs.Moved.{rules_from}
use Rattle.editions.proofs.put_rules.Given as goal

abbrev pub invariant-loop-r : goal.invariant-loop-r
invariant-loop-r l = (l.m ≤ l.n + 1024 * l.r) × RestPut l.initial.out l.n (rules_from l.byte l.table (rules_of l.table) 0) l.out l.m (rules_from l.byte l.table (rules_of l.table - l.r) l.r)
