-- The loop keeps that the records of the rules still left, put from here on, come to all records from n on. Each takes at most 1,024 bytes, and a table has at most 64.
use native.Mathlib.Omega.{arith}
use borrow.Author.Rules.{rules}
use Rattle.table.proofs.RecordLaws.{record_long}
use Rattle.ink.proofs.InkLaws.{rest_all}
use Rattle.editions.proofs.MovedLaws.{rules-first, rules-turn, rules-end}
use Rattle.editions.proofs.put_rules.Goals as goal

pub loop-r-init : goal.loop-r-init
loop-r-init c = (omega arith, rest_all (search rules-first))

pub put_rule-m-requires : goal.put_rule-m-requires
put_rule-m-requires c = (search rules, search record_long, search rules)

pub loop-r-preserved : goal.loop-r-preserved
loop-r-preserved c = (omega arith, rules-turn _ _ c.loop-r.invariant.1 c.loop-r-test.true c.rules-r-end.ensures.0 c.types_byte-own.ensures.0 c.rule-rule.ensures.0 c.put_rule-m.ensures.0)

pub returns : goal.returns
returns c = (search rules-end, omega arith)
