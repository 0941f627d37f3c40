-- The test decides which it is, as in the definition.
use mathlib.Core.Path.{refl}
use Rattle.fault.proofs.FaultLaws.{if_yes, if_no}
use Rattle.words.proofs.level.choose.Goals as goal

pub returns-then-test : goal.returns-then-test
returns-then-test c = if_yes _ refl refl c.if-test.true

pub returns-else-test : goal.returns-else-test
returns-else-test c = if_no _ refl c.if-test.false refl
