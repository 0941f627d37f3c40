-- After i turns the first i records have their tags and the rest are as they were; at the end all have them.
use Prim.Native.Nat.{◌/◌}
use lib.ListN.{length}
use Rattle.translate.proofs.LoopLaws.{tags-more, tags-all}
use Rattle.translate.proofs.write_tags.Goals as goal

pub loop-i-preserved : goal.loop-i-preserved
loop-i-preserved c = tags-more c.args.j c.args.c (length c.args.steps.now / 4) c.args.steps.now c.requires.whole c.loop-i.invariant c.loop-i-test.true c.tag_at.ensures

pub returns : goal.returns
returns c = tags-all c.args.j c.args.c (length c.args.steps.now / 4) c.args.steps.now c.requires.whole c.loop-i.invariant c.loop-i.auto.i-end c.loop-i-test.false
