-- Level 0 asks the sets and every other level the counts; each answers as its own column does.
use mathlib.Core.Path.{◌≡◌}
use Prim.Native.Nat.{ℕ}
use Rattle.words.proofs.LevelCases.{sets}
use Rattle.paper.specs.Form.{two, coll, shown}
use Rattle.paper.specs.Paper.{column}
use Rattle.words.proofs.level.Cell.in_transit.Goals as goal

pub returns-then-s-eq0 : goal.returns-then-s-eq0
unfolding coll shown
returns-then-s-eq0 c = let a = c.args in
    sets (λ (k : ℕ). c.in_transit.result ≡ (column k a.s.correct a.s.faulty).in_transit a.q (coll k a.s.correct a.s.faulty (two a.self.first a.self.last)) (shown k a.s.correct a.s.faulty a.out)) c.in_transit.ensures _ c.if-s-eq0.true
