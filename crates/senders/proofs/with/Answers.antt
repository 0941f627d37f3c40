-- A one at place q is `2 ^ q`, since q is below 64, so that its rest by 64 is q itself; `insert` is defined by that or.
use mathlib.Core.Path.{◌≡◌}
use Prim.Native.Nat.{◌%◌}
use native.Mathlib.Omega.{arith}
use Rattle.senders.specs.Set.{insert}
use Rattle.senders.proofs.WordLaws.{shl_one}
use Rattle.senders.proofs.with.Goals as goal

pub returns : goal.returns
unfolding insert
returns c = let e : c.args.q % 64 ≡ c.args.q = omega (arith, c.requires) in rw (e, shl_one c.args.q c.requires)
