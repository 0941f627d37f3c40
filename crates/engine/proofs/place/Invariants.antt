-- The starts of the boards below i stand in front of the words as they were; at the end these are all starts.
use mathlib.Core.Path.{◌≡◌}
use mathlib.Core.List.{◌++◌}
use lib.ListN.{take, drop}
use Rattle.engine.proofs.place.Given as goal

abbrev pub invariant-loop-i : goal.invariant-loop-i
invariant-loop-i l = l.w ≡ take l.i l.starts ++ drop l.i l.initial.w
