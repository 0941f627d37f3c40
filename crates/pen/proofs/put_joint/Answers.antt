-- By the number's place: nothing before the first, a comma and a blank where a group begins, else a blank.
use native.Mathlib.Omega.{arith}
use Rattle.pen.proofs.NumberLaws.{put-joint-none, put-joint_group, joint-blank}
use Rattle.pen.proofs.put_joint.Goals as goal

pub returns-then-j-eq0 : goal.returns-then-j-eq0
returns-then-j-eq0 c = (search put-joint-none, omega arith)

pub returns-then-i-eq0 : goal.returns-then-i-eq0
returns-then-i-eq0 c = (search put-joint_group, omega arith)

pub returns : goal.returns
returns c = (search joint-blank, omega arith)
