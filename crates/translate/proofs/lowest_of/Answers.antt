-- Tag 0 is that of the correct senders and tag 1 that of the faulty ones: the lowest of each kind in transit is the lowest of its tag.
use native.Mathlib.Omega.{arith}
use Rattle.translate.proofs.StepLaws.{lowest-tag-correct, lowest-tag-faulty}
use Rattle.translate.proofs.lowest_of.Goals as goal

pub returns-then-tag-eq0 : goal.returns-then-tag-eq0
returns-then-tag-eq0 c = let a = c.args in (lowest-tag-correct a.c a.f a.got a.out c.if-tag-eq0.true c.lowest_correct.ensures.0, omega arith)

pub returns : goal.returns
returns c = let a = c.args in (lowest-tag-faulty a.c a.f a.got a.out c.if-tag-eq0.false c.requires.1 c.lowest_faulty.ensures.0, omega arith)
