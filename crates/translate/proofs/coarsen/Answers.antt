-- At level j the steps are those at the start made coarser by j - k levels; the last j is the level that is asked for.
use Rattle.translate.proofs.WriteLaws.{coarsened_none, coarsened_more}
use Rattle.translate.proofs.coarsen.Goals as goal

pub loop-j-init : goal.loop-j-init
loop-j-init c = coarsened_none c.args.k c.args.c c.args.steps.now c.requires.2

pub loop-j-preserved : goal.loop-j-preserved
loop-j-preserved c = coarsened_more c.args.k c.args.c c.args.steps.now c.requires.2 c.loop-j.auto.j c.loop-j.invariant c.write_tags.ensures
