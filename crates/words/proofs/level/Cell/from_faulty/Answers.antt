-- A set is counted from c on; two counts have them in the last word; one count can not tell them.
use mathlib.Core.Path.{◌≡◌, refl}
use Prim.Native.Nat.{ℕ}
use Rattle.words.proofs.LevelCases.{sets, tags, faulty-untold}
use Rattle.paper.specs.Form.{two, coll}
use Rattle.words.specs.Words.{from_faulty}
use Rattle.words.proofs.level.Cell.from_faulty.Goals as goal

pub returns-then-s-eq0 : goal.returns-then-s-eq0
unfolding from_faulty coll
returns-then-s-eq0 c = let a = c.args in
    sets (λ (k : ℕ). c.faulty_count.result ≡ from_faulty k a.s.correct a.s.faulty (coll k a.s.correct a.s.faulty (two a.self.first a.self.last))) c.faulty_count.ensures.0 _ c.if-s-eq0.true

pub returns-then-s-eq1 : goal.returns-then-s-eq1
unfolding from_faulty coll
returns-then-s-eq1 c = let a = c.args in
    tags (λ (k : ℕ). a.self.last ≡ from_faulty k a.s.correct a.s.faulty (coll k a.s.correct a.s.faulty (two a.self.first a.self.last))) refl _ c.if-s-eq1.true

pub returns-else-s-eq1 : goal.returns-else-s-eq1
unfolding from_faulty coll
returns-else-s-eq1 c = let a = c.args in
    faulty-untold a.s.level a.s.correct a.s.faulty a.self.first a.self.last c.if-s-eq0.false c.if-s-eq1.false
