-- The loop keeps that putting the rest of the word from here on comes to putting all of it from n on.
use mathlib.Core.Path.{◌≡◌}
use Prim.Native.Nat.{◌+◌}
use lib.ListN.{drop}
use Rattle.ink.proofs.InkLaws.{RestPut}
use Rattle.ink.proofs.put_all.Given as goal

abbrev pub invariant-loop-b : goal.invariant-loop-b
invariant-loop-b l = (l.m ≡ l.n + l.b-index) × RestPut l.initial.out l.n l.word l.out l.m (drop l.b-index l.word)
