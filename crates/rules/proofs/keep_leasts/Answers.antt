-- Type by type, the least count that meets the threshold is stored beside those before it, which stay.
use native.Mathlib.Omega.{arith}
use Rattle.rules.proofs.RuleLaws.{row-none, row-all, row_more}
use Rattle.rules.proofs.keep_leasts.Goals as goal

pub loop-m-init : goal.loop-m-init
loop-m-init c = let a = c.args in row-none a.s a.byte a.t a.rule.now a.leasts.now a.r c.told-leasts

pub least_in-requires : goal.least_in-requires
least_in-requires c = (c.requires.0, c.requires.1, c.loop-m-test.true, c.requires.3)

pub loop-m-preserved : goal.loop-m-preserved
loop-m-preserved c = let a = c.args in
    let turn = c.loop-m in
    row_more a.s a.byte a.t a.rule.now a.leasts.now turn.leasts a.r turn.m (omega (arith, c.requires.2, c.requires.0.rules)) (omega (arith, c.loop-m-test.true, c.requires.0.types)) turn.invariant c.least_in.ensures

pub returns : goal.returns
returns c = let a = c.args in
    row-all a.s a.byte a.t a.rule.now a.leasts.now c.loop-m.leasts a.r c.loop-m.m a.s.types c.loop-m.auto.m-end c.loop-m-test.false c.loop-m.invariant
