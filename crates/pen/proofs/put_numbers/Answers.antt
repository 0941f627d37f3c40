-- The loop keeps that putting the numbers still left comes to putting all of them, and the place in its group of the next. Each takes at most 6 bytes:
-- two to join, four for the number.
use mathlib.Core.Path.{◌≡◌}
use Prim.Native.Nat.{◌+◌}
use native.Mathlib.Omega.{arith}
use Rattle.fault.specs.Bytes.{byte_at}
use Rattle.dot.proofs.ShapeLaws.{place-next}
use Rattle.pen.proofs.PartLaws.{numbers-turn, put-numbers-end}
use Rattle.pen.proofs.put_numbers.Goals as goal

pub loop-j-preserved : goal.loop-j-preserved
loop-j-preserved c = let a = c.args in let l = c.loop-j in
    let e : c.byte_at-b.result ≡ byte_at a.table.now (a.at + l.j) = omega arith in
    (search place-next, omega arith, numbers-turn a.shape a.table.now l.j a.at l.invariant.2 c.loop-j-test.true l.invariant.0 e c.put_number-m.ensures.0)

pub returns : goal.returns
returns c = (search put-numbers-end, omega arith)
