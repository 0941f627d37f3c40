-- After i turns the first i records have their tags and the rest are as they were; at the end all have them.
use Rattle.translate.proofs.LoopLaws.{Tags}
use Rattle.translate.proofs.write_tags.Given as goal

abbrev pub invariant-loop-i : goal.invariant-loop-i
invariant-loop-i l = Tags l.j l.c l.total l.initial.steps l.i l.steps
