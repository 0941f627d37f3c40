-- The loop passes the types that are met; the first that is not ends it.
use mathlib.Core.Path.{◌≡◌}
use mathlib.Core.Bool.{true}
use Prim.Native.Nat.{◌+◌}
use lib.Dec.{eqb}
use Rattle.senders.specs.Tally.{every, digit}
use Rattle.fault.specs.Tests.{◌at_least◌}
use Rattle.words.specs.Words.{count_in}
use Rattle.rules.specs.Kept.{kept_least}
use Rattle.step.proofs.not_met.Given as goal

abbrev pub invariant-loop-i : goal.invariant-loop-i
invariant-loop-i l = every l.i (λ i. (count_in l.rules.sizes l.w l.p i + digit (eqb l.m i)) at_least kept_least l.rules.leasts.now l.r i) ≡ true
