-- The loop keeps that j numbers are read and their bytes put, that reading on comes to the same, and the place in its group of the next.
use mathlib.Core.Path.{◌≡◌}
use Prim.Native.Nat.{◌%◌}
use Rattle.drawing.proofs.LabelLaws.{Numbering}
use Rattle.drawing.proofs.pieces.numbers.Given as goal

abbrev pub invariant-loop-j : goal.invariant-loop-j
invariant-loop-j l = (l.i ≡ l.j % l.shape.group) × Numbering l.text l.initial.d l.count l.shape l.n l.initial.out l.j l.d l.out
