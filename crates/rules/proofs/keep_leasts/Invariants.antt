-- Type by type, the least count that meets the threshold is stored beside those before it, which stay.
use Rattle.rules.specs.Facts.{RowTo}
use Rattle.rules.proofs.keep_leasts.Given as goal

abbrev pub invariant-loop-m : goal.invariant-loop-m
invariant-loop-m l = RowTo l.s l.byte l.t l.rule l.initial.leasts l.leasts l.r l.m
