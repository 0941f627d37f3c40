-- The loop keeps that every e before m is 1: one that is not ends it, and past the last type there is none.
use mathlib.Core.Bool.{false}
use mathlib.Core.Path.{◌≡◌}
use Rattle.senders.specs.Tally.{some}
use Rattle.editions.specs.Entry.{divided_by}
use Rattle.editions.proofs.divides.Given as goal

abbrev pub invariant-loop-m : goal.invariant-loop-m
invariant-loop-m l = some l.m (divided_by l.byte l.rule) ≡ false
