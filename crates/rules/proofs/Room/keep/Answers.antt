-- Rule by rule, its ends and its least counts are stored beside those of the rules before it, which stay; all together stand
-- for the table's design.
use mathlib.Core.Path.{refl}
use native.Mathlib.Omega.{arith}
use Rattle.rules.proofs.RuleLaws.{ends-none, ends_more, ends_all, recorded, leasts-none, leasts-more, leasts-all, kept_by}
use Rattle.rules.proofs.Room.keep.Goals as goal

pub loop-r-init : goal.loop-r-init
loop-r-init c = let a = c.args in
    (ends-none a.s a.table.now a.self.now.ends (omega arith), leasts-none a.s a.t a.table.now a.self.now.leasts (omega arith))

pub rule-rule-requires : goal.rule-rule-requires
rule-rule-requires c = (c.requires.0.formed.sized, c.states-states.ensures.0, c.types_byte-byte.ensures.0, c.types_byte-byte.ensures.1, rw (← c.requires.0.rules) c.loop-r-test.true)

pub keep_ends-requires : goal.keep_ends-requires
keep_ends-requires c = (c.requires.0, c.loop-r-test.true, c.rule-rule.ensures.0, omega (arith, c.rule-rule.ensures.1))

pub keep_leasts-requires : goal.keep_leasts-requires
keep_leasts-requires c = (
  c.requires.0.bounded,
  c.requires.1,
  c.loop-r-test.true,
  recorded c.args.s c.args.table.now c.loop-r.r c.requires.0 c.loop-r-test.true c.types_byte-byte.ensures.0 c.types_byte-byte.ensures.1 c.rule-rule.ensures.0 c.rule-rule.ensures.1,
)

pub loop-r-preserved : goal.loop-r-preserved
loop-r-preserved c = let a = c.args in
    let below = c.loop-r-test.true in (
      ends_more a.s a.table.now c.loop-r.self.ends c.loop-r.r (omega (arith, below, c.requires.0.bounded.rules)) c.loop-r.invariant.0 c.keep_ends.ensures.stored,
      leasts-more a.s a.t a.table.now c.loop-r.self.leasts _ c.loop-r.r c.requires.0.bounded.types c.loop-r.invariant.1 c.types_byte-byte.ensures.0 c.rule-rule.ensures.0 c.keep_leasts.ensures,
    )

pub returns : goal.returns
returns c = let a = c.args in
    let end = c.loop-r in
    (refl, kept_by a.s a.t a.table.now end.self.ends end.self.leasts c.requires.0 (ends_all a.s a.table.now end.self.ends end.r a.s.rules end.auto.r-end c.loop-r-test.false end.invariant.0) (leasts-all a.s a.t a.table.now end.self.leasts end.r a.s.rules end.auto.r-end c.loop-r-test.false end.invariant.1) c.requires.2)
