-- The step by the kept rules is that of every design that they stand for.
use mathlib.Core.Path.{ap, sym, ◌∙◌, subst⁻¹}
use Prim.Native.Nat.{◌+◌, ◌*◌}
use native.Mathlib.Omega.{arith}
use lib.ListN.{length}
use Rattle.step.proofs.KeptLaws.{fault-kept, left-kept, grown-left, length-left}
use Rattle.words.specs.Facts.{Grown}
use Rattle.schedule.specs.Records.{meant}
use Rattle.step.proofs.step.Goals as goal

pub shape_of-w : goal.shape_of-w
shape_of-w c = let a = c.args in
    ap length c.kept_step.ensures.w_after ∙ length-left a.rules.sizes a.rules.ends.now a.rules.leasts.now a.w.now (meant a.x)

pub returns : goal.returns
returns c = let a = c.args in record { by_design = λ d K. c.kept_step.ensures.value ∙ sym (fault-kept d a.rules.sizes a.rules.ends.now a.rules.leasts.now K a.w.now (meant a.x)); by_design_2 = λ d K. c.kept_step.ensures.w_after ∙ sym (left-kept d a.rules.sizes a.rules.ends.now a.rules.leasts.now K a.w.now (meant a.x)); grown = subst⁻¹ (Grown a.rules.sizes a.w.now) c.kept_step.ensures.w_after (grown-left a.rules.sizes a.rules.ends.now a.rules.leasts.now a.w.now (meant a.x) (omega (arith, a.rules.bytes (a.x.rule * 4 + 1)))) }
