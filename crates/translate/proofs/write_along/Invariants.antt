-- After i turns the first i records have their lowest sources, and the words are those after the first i of the new steps.
use mathlib.Core.Path.{◌≡◌}
use Prim.Native.Nat.{◌+◌, ◌*◌}
use lib.ListN.{length}
use Rattle.words.specs.Facts.{Holds}
use Rattle.translate.proofs.LoopLaws.{Alongs}
use Rattle.translate.proofs.write_along.Given as goal

abbrev pub invariant-loop-i : goal.invariant-loop-i
invariant-loop-i l = (Holds l.rules.sizes (256 + 2 * l.i) l.w) × (length l.steps ≡ length l.initial.steps) × Alongs l.rules.sizes l.rules.ends.now l.initial.w l.total l.initial.steps l.i l.w l.steps
