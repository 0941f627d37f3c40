-- The place goes up to the group's last, and then it is 0 again: the remainder, without a division.
use mathlib.Core.Path.{◌≡◌, sym}
use Prim.Native.Nat.{ℕ, ◌+◌, ◌%◌, ◌≤◌, ◌<◌}
use native.Mathlib.Nat.{mod-eq_of_lt, mod_self}
use native.Mathlib.Omega.{arith}
use borrow.Author.Rules.{rules}
use Rattle.dot.proofs.next.Goals as goal

inside : {r g : ℕ} → r < g → r ≡ r % g
inside h = sym (mod-eq_of_lt h)

past-last : {i g : ℕ} → i < g → g ≤ i + 1 → 0 ≡ (i + 1) % g
past-last {i} {g} h l = let e : i + 1 ≡ g = omega arith in rw e (sym (mod_self g))

pub returns-then-i-group : goal.returns-then-i-group
returns-then-i-group c = search (inside, rules)

pub returns-else-i-group : goal.returns-else-i-group
returns-else-i-group c = search (past-last, rules)
