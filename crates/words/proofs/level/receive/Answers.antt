-- Level 0 puts the sender into the cell's word; the others add one to the word of the source. Both are the word and the change of the definition.
use native.Mathlib.Omega.{arith}
use Rattle.words.proofs.LevelCases.{slot_is, set-received, count-received}
use Rattle.words.proofs.level.receive.Goals as goal

pub returns-then-level-eq0 : goal.returns-then-level-eq0
returns-then-level-eq0 c = let a = c.args in
    set-received a.level a.i a.q a.w.now c.if-level-eq0.true c.with.ensures

pub bounds-w-i-2 : goal.bounds-w-i-2
bounds-w-i-2 c = omega (arith, c.requires.q_bound.2, slot_is c.args.level c.args.q c.if-level-eq0.false (c.requires.q_bound_2 c.if-level-eq0.false).0)

pub overflow_add-w-2 : goal.overflow_add-w-2
overflow_add-w-2 c = omega (arith, (c.requires.q_bound_2 c.if-level-eq0.false).1)

pub bounds-w-i-3 : goal.bounds-w-i-3
bounds-w-i-3 c = omega (arith, c.requires.q_bound.2, slot_is c.args.level c.args.q c.if-level-eq0.false (c.requires.q_bound_2 c.if-level-eq0.false).0)

pub returns : goal.returns
returns c = let a = c.args in
    count-received a.level a.i a.q a.w.now c.if-level-eq0.false (c.requires.q_bound_2 c.if-level-eq0.false).0
