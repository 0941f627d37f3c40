-- Level 0 asks the sets and every other level the counts; each is the least of its own column.
use mathlib.Core.Path.{◌≡◌}
use Prim.Native.Nat.{ℕ}
use Rattle.senders.specs.Tally.{least}
use Rattle.paper.specs.Paper.{column}
use Rattle.paper.specs.Form.{two, coll, shown}
use Rattle.words.proofs.LevelCases.{sets}
use Rattle.words.proofs.level.Cell.first_source.Goals as goal

pub returns-then-s-eq0 : goal.returns-then-s-eq0
unfolding coll shown
returns-then-s-eq0 c = let a = c.args in
    sets (λ (k : ℕ). c.lowest_in_transit.result ≡ least (column k a.s.correct a.s.faulty).sources (λ q. (column k a.s.correct a.s.faulty).in_transit q (coll k a.s.correct a.s.faulty (two a.self.first a.self.last)) (shown k a.s.correct a.s.faulty a.out))) c.lowest_in_transit.ensures.0 _ c.if-s-eq0.true
