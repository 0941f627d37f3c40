-- Rule by rule, its ends and its least counts are stored beside those of the rules before it, which stay; all together stand
-- for the table's design.
use Rattle.rules.specs.Facts.{EndsTo, LeastsTo}
use Rattle.rules.proofs.Room.keep.Given as goal

abbrev pub invariant-loop-r : goal.invariant-loop-r
invariant-loop-r l = (EndsTo l.s.types l.table l.self.ends l.r) × LeastsTo l.s l.t l.table l.self.leasts l.r
