-- Level 0 counts the members of a set; the others add the words of the cell, the last only where it has two. Bounded words keep the sum small.
use mathlib.Core.Path.{◌≡◌, ap, ◌∙◌}
use Prim.Native.Nat.{ℕ, ◌+◌, ◌-◌, ◌*◌, ◌≤◌}
use native.Mathlib.Omega.{arith}
use Rattle.words.proofs.LevelCases.{sets, card-is, last_once}
use Rattle.paper.specs.Form.{two, coll}
use Rattle.paper.specs.Paper.{column}
use Rattle.paper.proofs.FormLaws.{wide-some}
use Rattle.words.proofs.level.Cell.card.Goals as goal

pub overflow_sub-result : goal.overflow_sub-result
unfolding coll
overflow_sub-result c = omega (arith, c.requires.leveled.1, (wide-some c.args.s.level).0)

pub overflow_mul-result : goal.overflow_mul-result
unfolding coll
overflow_mul-result c = omega (arith, last_once c.args.s.level c.args.self.last 1000000 c.requires.leveled.1 (c.requires.small c.if-s-eq0.false).1)

pub overflow_add-result : goal.overflow_add-result
unfolding coll
overflow_add-result c = let h = c.requires.small c.if-s-eq0.false in
    omega (arith, h.0, last_once c.args.s.level c.args.self.last 1000000 c.requires.leveled.1 h.1)

pub returns-then-s-eq0 : goal.returns-then-s-eq0
unfolding coll
returns-then-s-eq0 c = let a = c.args in
    sets (λ (k : ℕ). (c.correct_count.result ≡ (column k a.s.correct a.s.faulty).card (coll k a.s.correct a.s.faulty (two a.self.first a.self.last))) × (c.correct_count.result ≤ 2000000)) (c.correct_count.ensures.0, omega (arith, c.correct_count.ensures.1)) _ c.if-s-eq0.true

pub returns-else-s-eq0 : goal.returns-else-s-eq0
unfolding coll
returns-else-s-eq0 c = let a = c.args in
    let h = c.requires.small c.if-s-eq0.false in
    (ap (λ (x : ℕ). a.self.first + (x - 1) * a.self.last) c.requires.leveled.1 ∙ card-is a.s.level a.s.correct a.s.faulty a.self.first a.self.last c.if-s-eq0.false, omega (arith, h.0, last_once a.s.level a.self.last 1000000 c.requires.leveled.1 h.1))
