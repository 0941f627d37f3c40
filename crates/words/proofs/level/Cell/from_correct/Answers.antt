-- A set is counted below c; a cell of counts has them in its first word.
use mathlib.Core.Path.{◌≡◌}
use Prim.Native.Nat.{ℕ}
use Rattle.words.proofs.LevelCases.{sets, correct-counted}
use Rattle.paper.specs.Form.{two, coll}
use Rattle.words.specs.Words.{from_correct}
use Rattle.words.proofs.level.Cell.from_correct.Goals as goal

pub returns-then-s-eq0 : goal.returns-then-s-eq0
unfolding from_correct coll
returns-then-s-eq0 c = let a = c.args in
    sets (λ (k : ℕ). c.correct_count.result ≡ from_correct k a.s.correct a.s.faulty (coll k a.s.correct a.s.faulty (two a.self.first a.self.last))) c.correct_count.ensures.0 _ c.if-s-eq0.true

pub returns-else-s-eq0 : goal.returns-else-s-eq0
unfolding from_correct coll
returns-else-s-eq0 c = let a = c.args in
    correct-counted a.s.level a.s.correct a.s.faulty a.self.first a.self.last c.if-s-eq0.false
