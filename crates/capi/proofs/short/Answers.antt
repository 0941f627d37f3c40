-- A place below 2^24 is kept and any other is the largest of 24 bits: the test is the one of the definition.
use mathlib.Core.Path.{refl}
use native.Mathlib.Omega.{arith}
use borrow.Author.Tests.{lt-ltb, le-ltb}
use Rattle.fault.proofs.FaultLaws.{if_yes, if_no}
use Rattle.capi.proofs.short.Goals as goal

pub returns-then-place-lt16777216 : goal.returns-then-place-lt16777216
returns-then-place-lt16777216 c = if_yes _ refl refl (lt-ltb c.args.place 16777216 (omega (arith, c.if-place-lt16777216.true)))

pub returns : goal.returns
returns c = if_no _ refl (le-ltb _ _ c.if-place-lt16777216.false) refl
