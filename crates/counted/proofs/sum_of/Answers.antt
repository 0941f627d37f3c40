-- What was added so far is the sum below i, whatever says what the calls answer; and it is small where they are.
use native.Mathlib.Omega.{arith}
use Rattle.counted.proofs.SumLaws.{sum-begins, sum_goes, sum-ends, sum-within}
use Rattle.counted.proofs.sum_of.Goals as goal

pub loop-i-init : goal.loop-i-init
loop-i-init g c = (λ h e. sum-begins h, λ most l. omega arith)

pub overflow_add-sum : goal.overflow_add-sum
overflow_add-sum g c = omega (arith, c.loop-i.invariant.1 8000000 c.requires.small, c.requires.small c.loop-i.i c.f-sum.result c.loop-i-test.true c.f-sum.ensures, c.requires.few, c.loop-i-test.true)

pub loop-i-preserved : goal.loop-i-preserved
loop-i-preserved g c = (
  λ h e. sum_goes h c.loop-i.i (c.loop-i.invariant.0 h e) (e c.loop-i.i c.f-sum.result c.loop-i-test.true c.f-sum.ensures),
  λ most l. omega (arith, c.loop-i.invariant.1 most l, l c.loop-i.i c.f-sum.result c.loop-i-test.true c.f-sum.ensures),
)

pub returns : goal.returns
returns g c = record {
  value = λ h e. sum-ends h (c.loop-i.invariant.0 h e) c.loop-i.auto.i-end c.loop-i-test.false;
  within = λ most l. sum-within most (c.loop-i.invariant.1 most l) c.loop-i.auto.i-end;
}
