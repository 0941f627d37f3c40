-- The first place that has a refusal is the lowest, since those before it have none.
use mathlib.Core.Path.{refl}
use Rattle.std.specs.Prelude.{Ok, Err}
use Rattle.fault.proofs.FaultLaws.{first-none, first_found, first_more, first-never}
use Rattle.fault.proofs.RefusalLaws.{some_number}
use Rattle.fault.proofs.refusals.lowest.Goals as goal

pub loop-place-init : goal.loop-place-init
loop-place-init g c = λ f h. first-none f

pub loop-place-preserved : goal.loop-place-preserved
loop-place-preserved g c = λ f h.
    first_more f (c.loop-place.invariant f h) (h c.loop-place.place (Ok c.in_default.field-0) c.loop-place-test.true c.in_default.ensures) refl

pub returns-in-Err : goal.returns-in-Err
returns-in-Err g c = λ f h.
    first_found f (c.loop-place.invariant f h) (h c.loop-place.place (Err c.in-Err.refusal) c.loop-place-test.true c.in-Err.ensures) (some_number c.in-Err.refusal) c.loop-place-test.true refl

pub returns : goal.returns
returns g c = λ f h. first-never f (c.loop-place.invariant f h) c.loop-place.auto.place-end c.loop-place-test.false refl
