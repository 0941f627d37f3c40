-- A copy, in which the steps and the last byte are replaced.
use Prim.Native.Nat.{◌-◌}
use native.Mathlib.Omega.{arith}
use lib.ListN.{length}
use Rattle.translate.proofs.WriteLaws.{steps_part, all-written}
use Rattle.translate.specs.Written.{moved_by}
use Rattle.translate.specs.Facts.{Runs}
use Rattle.translate.proofs.write.Goals as goal

pub write_steps-requires : goal.write_steps-requires
write_steps-requires c = let a = c.args in
    (c.requires.0, c.requires.1, c.requires.2, steps_part a.bundle.now c.requires.0.parted c.steps_at-at.ensures.0 c.copy.ensures (length a.bundle.now - 8 - c.steps_at-at.result) (omega (arith, c.steps_at-at.ensures.1)))

pub returns : goal.returns
returns c = let a = c.args in
    λ (T : Runs a.rules.sizes a.rules.ends.now a.bundle.now). all-written a.bundle.now c.requires.0.parted c.steps_at-at.ensures.0 c.copy.ensures (moved_by a.rules.sizes a.bundle.now T.design a.form) a.form (c.write_steps.ensures T)
