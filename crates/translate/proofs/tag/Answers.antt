-- Without a message the source stays; with one, the three cases of the tag are those of the definition.
use mathlib.Core.Path.{sym, ◌∙◌}
use native.Mathlib.Omega.{arith}
use Rattle.fault.proofs.FaultLaws.{if_yes, if_no}
use Rattle.schedule.specs.Records.{meant}
use Rattle.translate.proofs.StepLaws.{tag-source, tag-none, tag-zero, tag_one}
use Rattle.translate.proofs.tag.Goals as goal

pub returns-then-silent : goal.returns-then-silent
returns-then-silent c = let a = c.args in
    (search if_yes ∙ sym (tag-source a.j a.c (meant a.x)), c.requires)

pub returns-then-j-ne0 : goal.returns-then-j-ne0
returns-then-j-ne0 c = let a = c.args in
    (if_no a.x.source c.silent.ensures c.if-silent.false (tag-none a.j a.c a.x.source c.if-j-ne0.true) ∙ sym (tag-source a.j a.c (meant a.x)), omega arith)

pub returns-then-x-c : goal.returns-then-x-c
returns-then-x-c c = let a = c.args in
    (if_no a.x.source c.silent.ensures c.if-silent.false (tag-zero a.j a.c a.x.source c.if-j-ne0.false c.if-x-c.true) ∙ sym (tag-source a.j a.c (meant a.x)), omega arith)

pub returns-else-x-c : goal.returns-else-x-c
returns-else-x-c c = let a = c.args in
    (if_no a.x.source c.silent.ensures c.if-silent.false (tag_one a.j a.c a.x.source c.if-j-ne0.false (omega (arith, c.if-x-c.false))) ∙ sym (tag-source a.j a.c (meant a.x)), omega arith)
