-- Each word is 0, the last one too.
use native.Mathlib.Omega.{arith}
use Rattle.engine.proofs.RunLaws.{filled}
use Rattle.engine.proofs.clear.Goals as goal

pub returns : goal.returns
returns c = let F = c.fill.ensures in filled _ _ F.len (λ j h. F.clones_before_last j 0 (omega arith) h) (λ h. F.last h 0)
