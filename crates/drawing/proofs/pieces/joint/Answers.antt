-- By the number's place: nothing before the first, a comma and a blank where a group begins, else a blank.
use borrow.Author.Rules.{rules}
use Rattle.drawing.proofs.LabelLaws.{joint-none, joint_group, joint-other}
use Rattle.drawing.proofs.pieces.joint.Goals as goal

pub returns-then-j-eq0 : goal.returns-then-j-eq0
returns-then-j-eq0 c = search (joint-none, rules)

pub returns-then-i-eq0 : goal.returns-then-i-eq0
returns-then-i-eq0 c = search joint_group

pub returns : goal.returns
returns c = search joint-other
