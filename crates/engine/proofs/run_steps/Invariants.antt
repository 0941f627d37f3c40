-- After i turns the run is the run of what is left; a refused step and the end of the schedule are its two ends.
use Rattle.engine.proofs.RunLaws.{SoFar}
use Rattle.engine.proofs.run_steps.Given as goal

abbrev pub invariant-loop-i : goal.invariant-loop-i
invariant-loop-i l = SoFar l.rules.sizes l.rules.ends.now l.rules.leasts.now l.initial.w l.steps l.i l.w
