-- The loop keeps that j numbers are read and their bytes put, that reading on comes to the same, and the place in its group of the next.
use native.Mathlib.Omega.{arith}
use borrow.Author.Rules.{rules}
use Rattle.dot.proofs.ShapeLaws.{place-first, place-next, place-below}
use Rattle.drawing.proofs.LabelLaws.{numbers-begin, numbers_go_on, numbers-end, numbers-length}
use Rattle.drawing.proofs.pieces.numbers.Goals as goal

pub loop-j-init : goal.loop-j-init
loop-j-init c = (place-first _, search (numbers-begin, rules))

pub number_at-d-requires : goal.number_at-d-requires
number_at-d-requires c = (search rules, omega arith)

pub next-i-requires : goal.next-i-requires
next-i-requires c = search (place-below, rules)

pub loop-j-preserved : goal.loop-j-preserved
loop-j-preserved c = (search place-next, search numbers_go_on)

pub shape_of-out : goal.shape_of-out
shape_of-out c = search numbers-length

pub returns : goal.returns
returns c = search (numbers-end, rules)
