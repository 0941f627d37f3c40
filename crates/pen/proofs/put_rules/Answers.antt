-- The loop keeps that the lines of the rules still left, put from here on, come to all lines from n on.
use native.Mathlib.Omega.{arith}
use Rattle.ink.proofs.InkLaws.{rest_all}
use Rattle.pen.proofs.TextLaws.{rules-first}
use Rattle.pen.proofs.PartLaws.{rules-turn, rules-end}
use Rattle.pen.proofs.put_rules.Goals as goal

pub loop-k-init : goal.loop-k-init
loop-k-init c = (omega arith, rest_all (search rules-first))

pub loop-k-preserved : goal.loop-k-preserved
loop-k-preserved c = (omega arith, search rules-turn)

pub returns : goal.returns
returns c = (search rules-end, omega arith)
