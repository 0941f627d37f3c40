-- At level j the steps are those at the start made coarser by j - k levels; the last j is the level that is asked for.
use Rattle.translate.proofs.WriteLaws.{Coarsened}
use Rattle.translate.proofs.coarsen.Given as goal

abbrev pub invariant-loop-j : goal.invariant-loop-j
invariant-loop-j l = Coarsened l.k l.c l.initial.steps l.j l.steps
