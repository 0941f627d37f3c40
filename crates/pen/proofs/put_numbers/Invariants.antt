-- The loop keeps that putting the numbers still left comes to putting all of them, and the place in its group of the next. Each takes at most 6 bytes:
-- two to join, four for the number.
use mathlib.Core.Path.{◌≡◌}
use Prim.Native.Nat.{◌+◌, ◌-◌, ◌*◌, ◌%◌, ◌≤◌}
use Rattle.dot.specs.Text.{numbers_text}
use Rattle.pen.specs.Pen.{alone}
use Rattle.ink.proofs.InkLaws.{RestPut}
use Rattle.pen.proofs.put_numbers.Given as goal

abbrev pub invariant-loop-j : goal.invariant-loop-j
invariant-loop-j l = (l.i ≡ l.j % l.shape.group) × (l.m ≤ l.n + 6 * l.j) × RestPut l.initial.out l.n (alone (numbers_text l.shape l.g 0 l.table l.at)) l.out l.m (alone (numbers_text l.shape (l.g - l.j) l.j l.table (l.at + l.j)))
