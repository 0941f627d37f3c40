-- The loop keeps that what is said of the types still left, put from here on, comes to what is said of all from n on. Each takes at most 4 bytes.
use Prim.Native.Nat.{◌+◌, ◌*◌, ◌-◌, ◌≤◌}
use Rattle.layout.specs.Layout.{types_in}
use Rattle.ink.proofs.InkLaws.{RestPut}
use Rattle.editions.specs.Moved.{types_from}
use Rattle.editions.proofs.put_types.Given as goal

abbrev pub invariant-loop-m : goal.invariant-loop-m
invariant-loop-m l = (l.at ≤ l.n + 4 * l.m) × RestPut l.initial.out l.n (types_from l.byte l.own l.rule (types_in l.own) 0) l.out l.at (types_from l.byte l.own l.rule (types_in l.own - l.m) l.m)
