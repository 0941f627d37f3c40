-- Whatever numbers the calls answer with: of the places below this one, none has another than 0.
use mathlib.Core.Path.{◌≡◌}
use Prim.Native.Nat.{ℕ, ◌<◌}
use Rattle.fault.specs.Fault.{fine, first_fault}
use Rattle.fault.specs.Refusals.{code}
use Rattle.fault.proofs.refusals.lowest.Given as goal

abbrev pub invariant-loop-place : goal.invariant-loop-place
invariant-loop-place g l = (f : ℕ → ℕ) → ((i : ℕ) (r : _) → i < l.n → goal.F-post g l.fault_at i r → code r ≡ f i) → first_fault f l.place ≡ fine
